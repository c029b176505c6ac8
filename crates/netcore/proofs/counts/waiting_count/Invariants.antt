use Rattle.std.proofs.Common.{◌≡◌, ◌-◌, ◌^◌, min, take}
use Rattle.std.specs.Prelude.{sum_by}
use Rattle.owner_theory.specs.Worlds.{waiting}
use Rattle.owner.specs.Owned.{OwnerOf}
use Rattle.netcore.proofs.counts.waiting_count.Given as goal

abbrev pub invariant-loop-owner : goal.invariant-loop-owner
invariant-loop-owner g l = l.count ≡ min (sum_by (λ (o : OwnerOf g.row.S.Denot). waiting o.outboxes) (take l.owner-index l.owners)) (2 ^ 128 - 1)
