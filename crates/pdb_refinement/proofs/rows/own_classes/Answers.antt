use Rattle.std.proofs.Common.{◌≡◌, ◌+◌, refl, arith}
use Rattle.pdb_refinement.proofs.Splits.{range_more}
use Rattle.pdb_refinement.proofs.rows.own_classes.Goals as goal

pub loop-value-preserved : goal.loop-value-preserved
loop-value-preserved c =
    let more = range_more 0 c.loop-value.value in
    let last : 0 + c.loop-value.value ≡ c.loop-value.value = omega arith in
    rw (c.in_ok-push.ensures.items, c.loop-value.invariant, more, last) refl
