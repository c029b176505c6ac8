use Rattle.checker_states.proofs.FirstPlaces.{closed_state}
use Rattle.checker_states.proofs.goals.first_failing.Goals as goal

pub passes_at-requires-clause-state : goal.passes_at-requires-clause-state
passes_at-requires-clause-state c = closed_state c.args.task.now c.args.certificate.now c.requires.clause c.loop-place.place
