use Rattle.std.proofs.Common.{◌≡◌, ◌∙◌, ap, sym, subst, inl, inr, ⊎_elim}
use Rattle.std.specs.Prelude.{codes}
use Rattle.clap.specs.Matches.{found_of}
use Rattle.clap.specs.Walk.{rows_of}
use Rattle.clap.specs.declared.parser.matches.ArgMatches.TheViews.{out-ArgMatches}
use Rattle.optplan_command.specs.SolveWords.{HasRefusedValue}
use Rattle.optplan_command.specs.SolvingCommands.{Solved}
use Rattle.optplan_command.specs.FileCommands.{IsNamed, DoesCommand}
use Rattle.optplan_command.specs.Options.{is_set}
use Rattle.optplan_command.specs.Requests.{value_in}
use Rattle.optplan_command.proofs.Refusals.{if_ok, if_err}
use Rattle.optplan_command.proofs.Requests.{values_found, same_request, does_solved, does_files, refused_solving}
use Rattle.optplan_command.proofs.command_line.run_words.Goals as goal

pub returns-in-Some-solving_command-clause-done : goal.returns-in-Some-solving_command-clause-done
returns-in-Some-solving_command-clause-done g c =
    let b = c.in-Some in
    let command = c.in-Some-solving_command.command in
    if_ok c.solve_by_words.result (λ status does. λ h name rows is asked same known.
    let request = same_request (out-ArgMatches c.in_ok-matches.matches).subcommand b.name.now (rows_of (found_of b.words.now)) name rows b.ensures.name b.ensures.rows
    (c.in_ok-matches.ensures.found ∙ asked) in
    let values = values_found (found_of b.words.now) ∙ ap value_in request.1 in
    let done = does h is same known in (
      done.0,
      done.1,
      does_solved name (value_in rows) h done.0 status command (sym request.0 ∙ c.in-Some-solving_command.ensures.some)
          (subst (λ value. Solved command value h done.0 status) values done.2),
    )) c.solve_by_words.ensures.done

pub returns-in-Some-solving_command-clause-refused : goal.returns-in-Some-solving_command-clause-refused
returns-in-Some-solving_command-clause-refused g c =
    let b = c.in-Some in
    let command = c.in-Some-solving_command.command in
    if_err c.solve_by_words.result (λ e why. λ none. ⊎_elim (λ memory. inl memory) (λ value. inr (
      value.0,
      λ name rows asked.
          let request = same_request (out-ArgMatches c.in_ok-matches.matches).subcommand b.name.now (rows_of (found_of b.words.now)) name rows b.ensures.name b.ensures.rows
          (c.in_ok-matches.ensures.found ∙ asked) in
          refused_solving name (value_in rows) command (sym request.0 ∙ c.in-Some-solving_command.ensures.some)
          (subst HasRefusedValue (values_found (found_of b.words.now) ∙ ap value_in request.1) value.1),
    )) why) c.solve_by_words.ensures.refused

pub returns-in-Some-file_command-clause-done : goal.returns-in-Some-file_command-clause-done
returns-in-Some-file_command-clause-done g c = λ h name rows is asked same known.
    let b = c.in-Some in
    let request = same_request (out-ArgMatches c.in_ok-matches.matches).subcommand b.name.now (rows_of (found_of b.words.now)) name rows b.ensures.name b.ensures.rows
    (c.in_ok-matches.ensures.found ∙ asked) in
    let values = values_found (found_of b.words.now) ∙ ap value_in request.1 in
    let done = c.run_files.ensures.done h is same known in
    let command = c.in-Some-file_command.command in
    let named = subst (λ n. IsNamed n (value_in rows) command) request.0
    (subst (λ value. IsNamed b.name.now value command) values c.in-Some-file_command.ensures.some) in
    let set : c.is_set-explains.result ≡ is_set (value_in rows) (codes "explain") = c.is_set-explains.ensures ∙ ap (λ value. is_set value (codes "explain")) values in
    let does = subst (λ explains. DoesCommand h done.0 command explains c.run_files.result) set done.2 in
    (done.0, done.1, does_files name (value_in rows) h done.0 c.run_files.result command named does)
