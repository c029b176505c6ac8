use Rattle.std.proofs.Common.{◌≡◌, true, IfOk, map, ap, subst, ◌∙◌}
use Rattle.std.specs.String.{string_bytes}
use Rattle.std.proofs.lemmas.Result.{IfOk-weaker}
use Rattle.clap.specs.Words.{App, FailsBy, HasMatchesOf, app_of, fault_of, is_simple_and_free, subcommand_of, subcommand_rows_of}
use Rattle.optplan_words.specs.Commands.{program}
use Rattle.optplan_words.proofs.Simple.{program_is_simple, program_is_free}
use Rattle.optplan_words.proofs.program.requested.Goals as goal

pub returns-clause-found : goal.returns-clause-found
returns-clause-found c =
    let words = map string_bytes c.args.words.now in
    let has : IfOk c.try_get_matches_from.result (HasMatchesOf program words) = rw c.in_ok-program_command.ensures at c.try_get_matches_from.ensures.matches in
    IfOk-weaker c.try_get_matches_from.result (HasMatchesOf program words) (λ m. subcommand_rows_of m ≡ subcommand_of program words) (λ m h. (h program_is_simple).1) has

pub returns-clause-fails : goal.returns-clause-fails
returns-clause-fails c =
    let words = map string_bytes c.args.words.now in
    let same = c.in_ok-program_command.ensures in
    let free : is_simple_and_free (app_of c.in_ok-program_command.field-0) ≡ true = ap is_simple_and_free same ∙ program_is_free in
    subst (λ (app : App). FailsBy (fault_of app words) c.try_get_matches_from.result) same (c.try_get_matches_from.ensures.kinds free)
