-- The invariant of worlds as they are stored, and the result of a step.
use Rattle.std.specs.Prelude.{◌≡◌, ℕ, ◌<◌, Bool, false, List, length, All}
use Rattle.owner_theory.specs.Owners.{At, Packet}
use Rattle.owner_theory.specs.Worlds as machine
use Rattle.owner.specs.Owned.{OwnerOf, IsMessageTo}
use Rattle.owner.specs.declared.fault.OwnerFault.{OwnerFault}
use Rattle.netcore.specs.declared.step.WorldStep.{WorldStep}
use Rattle.netcore.specs.Worlds.{WorldOf, space_in, Shows, Steps, IsAfter, IsStepRefusal, would_change}

-- the result of a step that is done, and whether it changed something
pub record IsStepDone {S : Type 0} (owner : S → List ℕ → ℕ → ℕ) (old new : WorldOf S) (asked : WorldStep) (changed : Bool) : Type 0 where
  pub stepped : (world : machine.World) → Shows owner old world → Steps owner old world asked new
  pub changed_is : changed ≡ would_change owner old asked
  pub unchanged : changed ≡ false → new ≡ old
  pub limited : new.limited ≡ old.limited
  pub space : new.space ≡ old.space
  pub owners : length new.owners ≡ length old.owners

-- the result of a step that is refused
pub record IsStepRefused {S : Type 0} (owner : S → List ℕ → ℕ → ℕ) (old new : WorldOf S) (asked : WorldStep) (fault : OwnerFault) : Type 0 where
  pub refused : IsStepRefusal owner old new asked fault
  pub space : new.space ≡ old.space
  pub owners : length new.owners ≡ length old.owners

-- the world has owners, and as many queues, bounds and flags; each owner has the world's space, its own number and an
-- outbox for each owner; each message underway is one that its receiver may take; and the world is the one after some
-- run
pub record IsWorld {S : Type 0} (owner : S → List ℕ → ℕ → ℕ) (w : WorldOf S) : Type 0 where
  pub some : 0 < length w.owners
  pub queues : length w.underway ≡ length w.owners
  pub bounds : length w.seen ≡ length w.owners
  pub flags : length w.resting ≡ length w.owners
  pub spaces : (v : ℕ) (o : OwnerOf S) → At w.owners v o → o.space ≡ w.space
  pub workers : (v : ℕ) (o : OwnerOf S) → At w.owners v o → o.worker ≡ v
  pub outboxes : (v : ℕ) (o : OwnerOf S) → At w.owners v o → length o.outboxes ≡ length w.owners
  pub messages : (v : ℕ) (ps : List Packet) → At w.underway v ps → All (λ p. IsMessageTo (space_in owner w) v p.message) ps
  pub run : ∥ ((asked : List WorldStep) × IsAfter owner (space_in owner w) asked w) ∥₁
