-- A worker is asked to expand a node, between rounds.
use Rattle.std.specs.Prelude.{◌≡◌, ◌≢◌, ℕ, false, List, length, slice_set, Option, Some, None}
use Rattle.cost.specs.Distances.{Distance, lesser}
use Rattle.owner_theory.specs.Owners.{At}
use Rattle.owner.specs.declared.fault.OwnerFault.{OwnerFault}
use Rattle.owner.specs.declared.fault.OwnerFault.TheVariants.{OutOfMemory}
use Rattle.owner.specs.Owned.{IsExpansion, IsRefusal}
use Rattle.worker.specs.Workers.{WorkerOf}
use Rattle.engine.specs.Teams.{TeamOf}

-- the owner has expanded its next node below the bound, or there is none; or it refused and is unchanged
abbrev pub HasAnswered : {S F : Type 0} → (S → List ℕ → ℕ → ℕ) → Distance → WorkerOf S F → WorkerOf S F → Option OwnerFault → Type 0
HasAnswered owner bound old new None = (posted : Option ℕ) × IsExpansion owner bound old.owner new.owner posted
HasAnswered owner bound old new (Some fault) =
    IsRefusal owner bound old.owner new.owner fault × (fault ≢ OutOfMemory) × (new.owner ≡ old.owner)

-- the worker has read this bound, and its owner was asked; nothing is sent or received
abbrev pub WasAsked : {S F : Type 0} → Distance → WorkerOf S F → WorkerOf S F → Type 0
WasAsked bound old new =
    new ≡ record old {
      owner = new.owner;
      bound = bound;
      seen = lesser old.seen bound;
      resting = false;
      uncounted = 0;
      taken = 0;
    }

-- worker `number` has read the least cost that was offered and was asked to expand a node below it; the other workers
-- are unchanged
pub record IsAsked {S F : Type 0} (owner : S → List ℕ → ℕ → ℕ) (number : ℕ) (old : TeamOf S F) (r : TeamOf S F × Option OwnerFault) : Type 0 where
  pub space : r.0.space ≡ old.space
  pub best : r.0.best ≡ old.best
  pub count : length r.0.workers ≡ length old.workers
  pub answered : (a b : WorkerOf S F) → At old.workers number a → At r.0.workers number b → HasAnswered owner old.best a b r.1
  pub worker : (a b : WorkerOf S F) → At old.workers number a → At r.0.workers number b → WasAsked old.best a b
  pub others : (v : ℕ) (a b : WorkerOf S F) → v ≢ number → At old.workers v a → At r.0.workers v b → b ≡ a

-- the same for a list of workers, and the cost that was offered
pub record AreAsked {S F : Type 0} (owner : S → List ℕ → ℕ → ℕ) (number : ℕ) (best : Distance) (old new : List (WorkerOf S F)) (refused : Option OwnerFault)
    : Type 0 where
  pub before : WorkerOf S F
  pub after : WorkerOf S F
  pub there : At old number before
  pub put : new ≡ slice_set old number after
  pub answered : HasAnswered owner best before after refused
  pub worker : WasAsked best before after
