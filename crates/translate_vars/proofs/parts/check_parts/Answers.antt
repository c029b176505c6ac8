use Rattle.std.proofs.Common.{rules, ◌≤◌, length}
use Rattle.pddl_task.specs.Atoms.{contains}
use Rattle.ground_theory.specs.Grounding.{IsClosedSet, actions_over}
use Rattle.ground.specs.Search.{max_actions}
use Rattle.ground.proofs.SearchLaws.{fault_passed}
use Rattle.translate_theory.specs.Translations.{AreVariables}
use Rattle.translate_theory.specs.Variables.{variables_at}
use Rattle.translate_vars.specs.Faults.{AreAtomsOf}
use Rattle.translate_vars.proofs.ListingLaws.{all_known}
use Rattle.translate_vars.proofs.parts.check_parts.Goals as goal

pub returns-in_err-check_limits-clause-fault : goal.returns-in_err-check_limits-clause-fault
returns-in_err-check_limits-clause-fault c =
    fault_passed _ c.in_err-check_limits.field-0.0 _ c.from_residual.ensures.1 (c.in_err-check_limits.ensures.fault c.args.task.now)

pub returns-clause-fit : goal.returns-clause-fit
returns-clause-fit c =
    let known : AreAtomsOf c.args.task.now c.args.atoms.now = search rules in
    let closed : IsClosedSet c.args.task.now (contains c.args.atoms.now) = search rules in
    let few : length (actions_over c.args.task.now (contains c.args.atoms.now)) ≤ max_actions = search rules in
    let chosen : AreVariables c.args.task.now c.args.atoms.now (actions_over c.args.task.now (contains c.args.atoms.now)) (variables_at c.args.atoms.now c.args.variables.now) = search rules in
    record {
      within = c.in_ok-check_limits.ensures.within;
      listed = record { known = all_known c.args.task.now c.args.atoms.now known; distinct = known.distinct; is_closed = closed };
      few_actions = few;
      chosen = chosen;
    }
