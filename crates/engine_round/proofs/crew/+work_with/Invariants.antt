use Rattle.std.proofs.Common.{length}
use Rattle.engine_round.proofs.crew.+work_with.Given as goal

abbrev pub decreases-work_with : goal.decreases-work_with
decreases-work_with g l = length l.jobs.items
