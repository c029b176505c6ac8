use Rattle.std.proofs.Common.{rules, ◌≡◌, true, false, Some, None}
use Rattle.std.specs.Prelude.{find, position, IsSome, MatchOption}
use Rattle.std.specs.List.{list_all}
use Rattle.std.specs.Option.{option_copied}
use Rattle.pddl_task.specs.Atoms.{contains, has_wanted}
use Rattle.ground_theory.specs.Grounding.{actions_over}
use Rattle.ground_theory.proofs.Binding.{closed_back}
use Rattle.ground.specs.Closing.{is_open, IsLeastMissing}
use Rattle.ground.proofs.ClosingLaws.{none_open, first_is, first_is_open, some_of}
use Rattle.translate_vars.proofs.closing.check_closed.Goals as goal

pub returns-in_default-clause-closed : goal.returns-in_default-clause-closed
returns-in_default-clause-closed c =
    let none : position (is_open (contains c.args.atoms.now)) (actions_over c.args.task.now (contains c.args.atoms.now)) ≡ None = search rules in
    record {
      initial = search rules;
      goal = search rules;
      closed = closed_back c.args.task.now (contains c.args.atoms.now) (none_open (contains c.args.atoms.now) (actions_over c.args.task.now (contains c.args.atoms.now)) none);
    }

pub unwrap-atom-requires : goal.unwrap-atom-requires
unwrap-atom-requires c =
    let some : position (is_open (contains c.args.atoms.now)) c.args.actions.now ≡ Some c.in-Some.place = search rules in
    let missing : list_all (contains c.args.atoms.now) c.index-actions-place.result.adds ≡ false
    = first_is_open (contains c.args.atoms.now) c.args.actions.now c.in-Some.place c.index-actions-place.result some c.index-actions-place.is in
    let found : MatchOption (option_copied c.least_missing.result) (list_all (contains c.args.atoms.now) c.index-actions-place.result.adds ≡ true) (IsLeastMissing (contains c.args.atoms.now) c.index-actions-place.result.adds) = search rules in
    let there : IsSome (option_copied c.least_missing.result) = some_of (contains c.args.atoms.now) c.index-actions-place.result.adds (option_copied c.least_missing.result) found missing in
    search rules

pub returns-clause-fault : goal.returns-clause-fault
returns-clause-fault c = λ variables within known few.
    let some : position (is_open (contains c.args.atoms.now)) c.args.actions.now ≡ Some c.in-Some.place = search rules in
    let initial : list_all (contains c.args.atoms.now) c.args.task.now.initial ≡ true = search rules in
    let goals : has_wanted (contains c.args.atoms.now) c.args.task.now.goal ≡ true = search rules in
    let first : find (is_open (contains c.args.atoms.now)) c.args.actions.now ≡ Some c.index-actions-place.result
    = first_is (contains c.args.atoms.now) c.args.actions.now c.in-Some.place c.index-actions-place.result some c.index-actions-place.is in
    let over : c.args.actions.now ≡ actions_over c.args.task.now (contains c.args.atoms.now) = c.requires in
    let least : IsLeastMissing (contains c.args.atoms.now) c.index-actions-place.result.adds c.in_ok-try_clone.field-0 = search rules in (
      within,
      known,
      few,
      initial,
      goals,
      (
        c.index-actions-place.result,
        record {
          first = rw (← over) first;
          least = least;
        },
      ),
    )
