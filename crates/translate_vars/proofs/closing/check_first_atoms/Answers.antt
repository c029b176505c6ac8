use Rattle.std.proofs.Common.{rules, ◌≡◌, true, not, inr, Some, None}
use Rattle.std.specs.Prelude.{find}
use Rattle.std.specs.List.{list_all}
use Rattle.pddl_task.specs.Atoms.{contains}
use Rattle.ground.specs.Rounds.{wanted_atoms}
use Rattle.translate_vars.proofs.GoalLaws.{all_wanted}
use Rattle.translate_vars.proofs.closing.check_first_atoms.Goals as goal

pub returns-in-Some-first_missing-clause-fault : goal.returns-in-Some-first_missing-clause-fault
returns-in-Some-first_missing-clause-fault c = λ variables within known few.
    let initial : list_all (contains c.args.atoms.now) c.args.task.now.initial ≡ true = search rules in
    let first : find (λ q. not (contains c.args.atoms.now q)) (wanted_atoms c.args.task.now.goal) ≡ Some c.in_ok-try_clone-2.field-0 = search rules in
    (within, known, few, inr (initial, first))

pub returns-clause-goal : goal.returns-clause-goal
returns-clause-goal c =
    let none : find (λ q. not (contains c.args.atoms.now q)) (wanted_atoms c.args.task.now.goal) ≡ None = search rules in
    all_wanted (contains c.args.atoms.now) c.args.task.now.goal none
