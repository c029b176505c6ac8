use Rattle.std.proofs.Common.{length, drop, ◌-◌}
use Rattle.reduction_certs.proofs.ShareLaws.{AreAmounts}
use Rattle.reduction_certs.proofs.shares.amounts_of.Given as goal

abbrev pub invariant-loop-place : goal.invariant-loop-place
invariant-loop-place l = AreAmounts l.count (drop (length l.shares - l.place) l.shares) l.amounts.items
