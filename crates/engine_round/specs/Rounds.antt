-- The effect of a round on the workers that take turns in it.
use Rattle.std.specs.Prelude.{◌≡◌, ◌≢◌, ℕ, suc, List, [], ◌∷◌, map, All, Option, Some, None}
use Rattle.std.specs.List.{AllZip}
use Rattle.cost.specs.Distances.{Distance, ◌≤ᵈ◌, least}
use Rattle.owner.specs.declared.fault.OwnerFault.TheVariants.{OutOfMemory}
use Rattle.worker.specs.Workers.{WorkerOf}
use Rattle.engine_round.specs.Turns.{MayStop, IsSameWorker, HasEnded}
use Rattle.engine_round.specs.declared.fault.TurnFault.{TurnFault}
use Rattle.engine_round.specs.declared.fault.TurnFault.TheVariants.{Owner}

-- the workers after a round, the least cost that any of them has ever offered, and the first fault that ended the turns
-- of a worker, with the worker's number
pub record RoundEndOf (S F : Type 0) : Type 0 where
  pub workers : List (WorkerOf S F)
  pub best : Distance
  pub fault : Option (ℕ × TurnFault)

-- it is the same worker, all its messages are counted, and unless it has set one aside, the bound that it read last is
-- at most the least cost that was offered before the round
pub record HasPlayed {S F : Type 0} (best : Distance) (old new : WorkerOf S F) : Type 0 where
  pub same : IsSameWorker old new
  pub uncounted : new.uncounted ≡ 0
  pub told : new.misfits ≡ [] → new.bound ≤ᵈ best

-- the turns of the worker ended with this fault or with none, and not because allocation failed
abbrev pub IsEndedBy : {S F : Type 0} → (S → List ℕ → ℕ → ℕ) → (List ℕ → F → List ℕ) → MayStop → WorkerOf S F → Option TurnFault → Type 0
IsEndedBy owner values may_stop w fault = HasEnded owner values may_stop w fault × (fault ≢ Some (Owner OutOfMemory))

-- the first fault, with its index, counted from `v`
abbrev pub first_fault : ℕ → List (Option TurnFault) → Option (ℕ × TurnFault)
first_fault v [] = None
first_fault v (None ∷ faults) = first_fault (suc v) faults
first_fault v (Some fault ∷ faults) = Some (v, fault)

-- the first fault so far, given that of the worker of index `v`
abbrev pub earlier : Option (ℕ × TurnFault) → ℕ → Option TurnFault → Option (ℕ × TurnFault)
earlier (Some first) v fault = Some first
earlier None v None = None
earlier None v (Some fault) = Some (v, fault)

-- a round of these workers: each has taken its turns, which ended by its fault or by none, and the result has the first
-- of these faults; its cost is the least that any worker has ever offered, and none has seen a bound below it
pub record IsRound {S F : Type 0} (owner : S → List ℕ → ℕ → ℕ) (values : List ℕ → F → List ℕ) (may_stop : MayStop) (old : List (WorkerOf S F)) (r : RoundEndOf S F) : Type 0 where
  pub played : AllZip (HasPlayed (least (map (λ w. w.offered) old))) old r.workers
  pub faults : List (Option TurnFault)
  pub stopped : AllZip (IsEndedBy owner values may_stop) r.workers faults
  pub fault : r.fault ≡ first_fault 0 faults
  pub best : r.best ≡ least (map (λ w. w.offered) r.workers)
  pub bounded : All (λ w. r.best ≤ᵈ w.seen) r.workers
