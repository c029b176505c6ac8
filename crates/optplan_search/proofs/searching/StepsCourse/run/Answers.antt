use Rattle.std.proofs.Common.{subst}
use Rattle.packed_spread.specs.Spreads.{zobrist_owner}
use Rattle.netcore.specs.Worlds.{IsRunRefusal}
use Rattle.optplan_search.proofs.WorldEnds.{ends_after_steps, large_after}
use Rattle.optplan_search.proofs.searching.StepsCourse.run.Goals as goal

pub returns-in-Ok-clause-ended : goal.returns-in-Ok-clause-ended
returns-in-Ok-clause-ended g c =
    ends_after_steps c.args.options.now c.args.space.now.task c.args.space.now c.requires.space c.workers.result c.workers.ensures.value
    c.args.self.now.steps.now c.in-Ok.world c.in-Ok.ensures.run

pub unreachable-requires : goal.unreachable-requires
unreachable-requires g c =
    subst (IsRunRefusal zobrist_owner c.args.space.now c.workers.result c.args.self.now.steps.now) c.in-Err-LimitReached.field-0-is c.in-Err-LimitReached.ensures.refused

pub returns-in-Err-TotalTooLarge-clause-refused : goal.returns-in-Err-TotalTooLarge-clause-refused
returns-in-Err-TotalTooLarge-clause-refused g c =
    large_after c.args.options.now c.args.space.now.task c.args.space.now
    c.requires.space c.workers.result c.workers.ensures.value c.args.self.now.steps.now
    (subst (IsRunRefusal zobrist_owner c.args.space.now c.workers.result c.args.self.now.steps.now) c.in-Err-TotalTooLarge.field-0-is c.in-Err-TotalTooLarge.ensures.refused)
