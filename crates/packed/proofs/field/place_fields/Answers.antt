use Rattle.std.proofs.Common.{◌≤◌, get_or, arith}
use Rattle.packed.proofs.Digits.{width_le}
use Rattle.packed.proofs.Placing.{placing_here, placing_next}
use Rattle.packed.proofs.field.place_fields.Goals as goal
use Rattle.packed.proofs.field.place_fields.Goals.{After-width_of-width, then-shift-width-gt-BITS, else-shift-width-gt-BITS}

narrow : (c : After-width_of-width) → c.width_of-width.result ≤ 64
narrow c =
    omega (
      arith,
      c.width_of-width.ensures,
      width_le (get_or c.args.ranges.now c.loop-range.range-index 0) 64 (omega (arith, c.type_inv.ranges c.loop-range.range-index)),
    )

pub overflow_add-shift : goal.overflow_add-shift
overflow_add-shift c = omega (arith, c.loop-range.invariant.in_word, narrow c)

pub loop-range-preserved : goal.loop-range-preserved
loop-range-preserved c =
    rw c.in_ok-push.ensures.items
    (elim c.if-shift-width-gt-BITS.branch [
      | then-shift-width-gt-BITS w ↦
          rw (w.word-is, w.shift-is)
          (placing_next c.args.ranges.now c.loop-range.range-index c.loop-range.fields.items c.loop-range.word c.loop-range.shift c.width_of-width.result
          c.loop-range-test.true c.loop-range.invariant c.width_of-width.ensures w.if-shift-width-gt-BITS.true
          (narrow (goal.at.loop-range-preserved c).After-width_of-width))
      | else-shift-width-gt-BITS w ↦
          rw (w.word-is, w.shift-is)
          (placing_here c.args.ranges.now c.loop-range.range-index c.loop-range.fields.items c.loop-range.word c.loop-range.shift c.width_of-width.result
          c.loop-range-test.true c.loop-range.invariant c.width_of-width.ensures w.if-shift-width-gt-BITS.false)
    ])
