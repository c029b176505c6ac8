use Rattle.std.proofs.Common.{arith, length, ◌≤◌}
use Rattle.optplan_plan_texts.specs.Decimals.{read}
use Rattle.optplan_plan_texts.proofs.Numbers.{differ, agree}
use Rattle.optplan_plan_texts.proofs.decimal.is_less.Goals as goal

pub returns-then-first-second : goal.returns-then-first-second
returns-then-first-second c =
    let wholes = c.max-wholes.result in
    differ (read c.args.a) (read c.args.b) c.requires.first c.requires.second wholes c.max.result (omega (arith, c.max-wholes.ensures)) (omega (arith, c.max-wholes.ensures)) c.max.ensures
    c.loop-place.place c.digit_at-first.result c.digit_at-second.result c.digit_at-first.ensures c.digit_at-second.ensures c.loop-place.invariant c.loop-place-test.true c.if-first-second.true

pub returns : goal.returns
returns c =
    let wholes = c.max-wholes.result in
    agree (read c.args.a) (read c.args.b) c.requires.first c.requires.second wholes c.max.result (omega (arith, c.max-wholes.ensures)) (omega (arith, c.max-wholes.ensures)) c.max.ensures
    (λ k h. c.loop-place.invariant k (omega (arith, h, c.loop-place-test.false)))
