use Rattle.std.proofs.Common.{◌≡◌, ◌+◌, refl, arith}
use Rattle.pdb_refinement.proofs.Splits.{range_more}
use Rattle.pdb_refinement.proofs.choice.numbers_below.Goals as goal

pub loop-number-preserved : goal.loop-number-preserved
loop-number-preserved c =
    let more = range_more 0 c.loop-number.number in
    let last : 0 + c.loop-number.number ≡ c.loop-number.number = omega arith in
    rw (c.in_ok-push.ensures.items, c.loop-number.invariant, more, last) refl
