use Rattle.std.proofs.Common.{subst}
use Rattle.packed_spread.specs.Spreads.{zobrist_owner}
use Rattle.optplan_search.specs.Schedules.{IsSimulationRefusal}
use Rattle.optplan_search.proofs.WorldEnds.{ends_after_drawn, large_by_seed}
use Rattle.optplan_search.proofs.searching.DrawsCourse.run.Goals as goal

pub returns-in-Ok-clause-ended : goal.returns-in-Ok-clause-ended
returns-in-Ok-clause-ended g c =
    ends_after_drawn c.args.options.now c.args.space.now.task c.args.space.now c.requires.space c.workers-workers.result c.workers-workers.ensures.value
    c.args.self.now.seed c.steps-steps.result c.in-Ok.world c.steps-steps.ensures c.in-Ok.ensures.run

pub unreachable-requires : goal.unreachable-requires
unreachable-requires g c =
    (subst (IsSimulationRefusal zobrist_owner c.args.space.now c.workers-workers.result c.args.self.now.seed) c.in-Err-LimitReached.field-0-is c.in-Err-LimitReached.ensures.refused).2

pub returns-in-Err-TotalTooLarge-clause-refused : goal.returns-in-Err-TotalTooLarge-clause-refused
returns-in-Err-TotalTooLarge-clause-refused g c =
    large_by_seed c.args.options.now c.args.space.now.task c.args.space.now
    c.requires.space c.workers-workers.result c.workers-workers.ensures.value c.args.self.now.seed
    (subst (IsSimulationRefusal zobrist_owner c.args.space.now c.workers-workers.result c.args.self.now.seed) c.in-Err-TotalTooLarge.field-0-is c.in-Err-TotalTooLarge.ensures.refused)
