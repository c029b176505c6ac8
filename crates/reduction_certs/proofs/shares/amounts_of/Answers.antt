use Rattle.std.proofs.Common.{arith}
use Rattle.reduction_certs.proofs.ShareLaws.{amounts_next}
use Rattle.reduction_certs.proofs.shares.amounts_of.Goals as goal

pub loop-place-preserved : goal.loop-place-preserved
loop-place-preserved c =
    amounts_next c.args.count c.loop-place.place c.args.shares.now c.loop-place.amounts.items (record { operator = 0; amount = 0 }) c.loop-place-test.true (omega (arith, c.if-operator-count.false)) c.loop-place.invariant
