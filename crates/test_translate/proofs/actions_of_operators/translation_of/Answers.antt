use Rattle.pddl_laws.proofs.KnownAtoms.{spelled_known}
use Rattle.test_translate.proofs.actions_of_operators.translation_of.Goals as goal

pub translate-requires : goal.translate-requires
translate-requires c =
    let known = spelled_known _ _ _ c.in-Ok.ensures.found in
    record { small = c.in-Ok.ensures.small; costs = c.in-Ok.ensures.costs; initial = known.initial; goals = known.goals; added = known.added }
