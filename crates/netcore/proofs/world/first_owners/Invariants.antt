use Rattle.std.proofs.Common.{◌≡◌, ℕ, length}
use Rattle.owner_theory.specs.Owners.{At}
use Rattle.owner.specs.Owned.{OwnerOf}
use Rattle.netcore.specs.Starts.{IsFirstOwner}
use Rattle.netcore.proofs.world.first_owners.Given as goal

abbrev pub invariant-loop-worker : goal.invariant-loop-worker
invariant-loop-worker g l =
    (length l.owners.items ≡ l.worker)
    × ((v : ℕ) (o : OwnerOf g.row.S.Denot) → At l.owners.items v o → IsFirstOwner g.S.Spread.owner l.space l.count v o)
