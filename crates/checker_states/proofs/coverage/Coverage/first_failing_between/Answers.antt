use Rattle.checker_states.proofs.FirstPlaces.{closed_state}
use Rattle.checker_states.proofs.coverage.Coverage.first_failing_between.Goals as goal

pub first_failing-requires-clause-state : goal.first_failing-requires-clause-state
first_failing-requires-clause-state c = closed_state c.args.self.now.task c.args.self.now.certificate c.requires.clause c.loop-place.place
