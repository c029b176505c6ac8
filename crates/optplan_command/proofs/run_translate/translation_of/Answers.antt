use Rattle.pddl_laws.proofs.GoalLaws.{spelled_well}
use Rattle.pddl_laws.proofs.KnownAtoms.{spelled_known}
use Rattle.optplan_command.proofs.run_translate.translation_of.Goals as goal

pub translation_text-requires-clause-read : goal.translation_text-requires-clause-read
translation_text-requires-clause-read c =
    let known = spelled_known c.args.domain.now c.args.problem.now _ c.in-Ok.ensures.found in
    record { small = c.in-Ok.ensures.small; costs = c.in-Ok.ensures.costs; initial = known.initial; goals = known.goals; added = known.added }

pub translation_text-requires-clause-well : goal.translation_text-requires-clause-well
translation_text-requires-clause-well c = spelled_well c.args.domain.now c.args.problem.now _ c.in-Ok.ensures.found
