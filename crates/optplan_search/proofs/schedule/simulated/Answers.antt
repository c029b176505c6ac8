use Rattle.std.proofs.Common.{◌^◌, ◌-◌, ℕ, List, ap, subst, arith}
use Rattle.rand_core.specs.Steps.{stream_of, steps_u64_high}
use Rattle.rand_xoshiro.specs.Xoshiro256.{plus_plus}
use Rattle.netcore.specs.Worlds.{IsStepRefusal}
use Rattle.optplan_search.proofs.Schedules.{IsTurn, begun, one_more, limited, too_large, ended, left_of, used_up}
use Rattle.optplan_search.proofs.schedule.simulated.Goals as goal

pub loop-init : goal.loop-init
loop-init g c =
    let started = c.in_ok-world.ensures in
    record {
      under_way = begun g.S.Spread.owner c.args.space.now c.args.owners c.args.seed c.in_ok-world.world started.started started.space started.owners;
      words = ap (λ (s : List ℕ). stream_of (steps_u64_high plus_plus) s) c.seed_from_u64-generator.ensures;
    }

pub returns-then-count-eq0-clause-run : goal.returns-then-count-eq0-clause-run
returns-then-count-eq0-clause-run g c =
    ended g.S.Spread.owner c.args.space.now c.args.owners c.args.seed c.loop.counter c.args.steps c.loop.world c.loop.invariant.under_way c.recall.ensures.filled c.loop.auto.counter-end
    (c.count.ensures.quiet c.if-count-eq0.true)

pub returns-in-Err-LimitReached-clause-run : goal.returns-in-Err-LimitReached-clause-run
returns-in-Err-LimitReached-clause-run g c =
    let turn : IsTurn g.S.Spread.owner c.args.space.now c.args.owners c.args.seed c.loop.counter c.loop.world c.drawn-step.result = record {
      filled = c.recall.ensures.filled;
      left = left_of g.S.Spread.owner (2 ^ 128 - 1) c.count.result c.loop.world c.count.ensures.count c.if-count-eq0.false;
      drawn = c.drawn-step.ensures.step c.args.seed c.loop.counter c.loop.invariant.words;
    } in
    limited g.S.Spread.owner c.args.space.now c.args.owners c.args.seed c.loop.counter c.args.steps c.drawn-step.result c.loop.world c.step.new.self
    c.loop.invariant.under_way c.loop.auto.counter-end turn
    (subst (IsStepRefusal g.S.Spread.owner c.loop.world c.step.new.self c.drawn-step.result) c.in-Err-LimitReached.field-0-is c.in-Err-LimitReached.ensures.refused)

pub returns-in-Err-TotalTooLarge-clause-refused : goal.returns-in-Err-TotalTooLarge-clause-refused
returns-in-Err-TotalTooLarge-clause-refused g c =
    too_large g.S.Spread.owner c.args.space.now c.args.owners c.args.seed c.loop.counter c.drawn-step.result c.loop.world c.step.new.self
    c.loop.invariant.under_way
    (record {
      filled = c.recall.ensures.filled;
      left = left_of g.S.Spread.owner (2 ^ 128 - 1) c.count.result c.loop.world c.count.ensures.count c.if-count-eq0.false;
      drawn = c.drawn-step.ensures.step c.args.seed c.loop.counter c.loop.invariant.words;
    })
    (subst (IsStepRefusal g.S.Spread.owner c.loop.world c.step.new.self c.drawn-step.result) c.in-Err-TotalTooLarge.field-0-is c.in-Err-TotalTooLarge.ensures.refused)

pub loop-preserved : goal.loop-preserved
loop-preserved g c = record {
  under_way =
      one_more g.S.Spread.owner c.args.space.now c.args.owners c.args.seed c.loop.counter c.drawn-step.result c.loop.world c.step.new.self c.loop.invariant.under_way
      (record {
        filled = c.recall.ensures.filled;
        left = left_of g.S.Spread.owner (2 ^ 128 - 1) c.count.result c.loop.world c.count.ensures.count c.if-count-eq0.false;
        drawn = c.drawn-step.ensures.step c.args.seed c.loop.counter c.loop.invariant.words;
      }) c.in-Ok.ensures.stepped c.step.ensures.space c.step.ensures.owners;
  words = c.drawn-step.ensures.next c.args.seed c.loop.counter c.loop.invariant.words;
}

pub returns-clause-run : goal.returns-clause-run
returns-clause-run g c =
    let at_end = c.loop-test.false in
    let most = c.loop.auto.counter-end in
    used_up g.S.Spread.owner c.args.space.now c.args.owners c.args.seed c.loop.counter c.args.steps c.loop.world c.loop.invariant.under_way c.recall-2.ensures.filled (omega (arith, at_end, most))
