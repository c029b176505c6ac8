-- How a multi-threaded search ends, and why it may fail.
use Rattle.std.specs.Prelude.{◌≡◌, ℕ, ◌<◌, List, [], length, None}
use Rattle.cost.specs.Distances.{Distance}
use Rattle.owner_theory.specs.Owners.{At}
use Rattle.owner_theory.specs.Families.{Family}
use Rattle.owner.specs.declared.fault.OwnerFault.{OwnerFault}
use Rattle.owner.specs.declared.fault.OwnerFault.TheVariants as owner_fault
use Rattle.owner.specs.Spaces.{SpaceOf}
use Rattle.owner.specs.Owned.{OwnerOf, IsRefusal}
use Rattle.extract.specs.Ends.{EndOf, IsForm, IsEndOf, IsSettledAt, IsSettledAnswer, space_at}
use Rattle.engine_round.specs.Turns.{MayStop}
use Rattle.engine_round.specs.declared.gate.Stop.{Stop}
use Rattle.engine_round.specs.declared.gate.Stop.TheVariants as stop
use Rattle.engine.specs.declared.fault.EngineFault.{EngineFault}
use Rattle.engine.specs.declared.fault.EngineFault.TheVariants.{OutOfMemory, TotalTooLarge, Gate}
use Rattle.engine.specs.declared.searched.Cause.{Cause}
use Rattle.engine.specs.declared.searched.Cause.TheVariants as cause
use Rattle.engine.specs.declared.searched.Searched.{Searched}
use Rattle.engine.specs.declared.searched.Searched.TheVariants.{Settled, Stopped}

-- the end of a lawful family of `workers` owners, each of that space, which have taken all messages
pub record IsEndIn {S : Type 0} (owner : S → List ℕ → ℕ → ℕ) (searched_space : SpaceOf S) (workers : ℕ) (e : EndOf S) : Type 0 where
  pub space : e.space ≡ searched_space
  pub count : length e.owners ≡ workers
  pub left : e.left ≡ []
  pub form : IsForm e
  pub family : ∥ ((family : Family) × IsEndOf owner e family) ∥₁

-- one of the owners refuses to expand its next node below some bound, for this fault
pub record IsRefusedBy {S : Type 0} (owner : S → List ℕ → ℕ → ℕ) (e : EndOf S) (fault : OwnerFault) : Type 0 where
  pub number : ℕ
  pub holder : OwnerOf S
  pub there : At e.owners number holder
  pub bound : Distance
  pub refusal : IsRefusal owner bound holder holder fault

-- the gate may end a search of `workers` workers in this way
pub record IsEndedByGate (may_stop : MayStop) (workers : ℕ) (how : Stop) : Type 0 where
  pub worker : ℕ
  pub within : worker < workers
  pub turn : ℕ
  pub stops : may_stop worker turn how

-- the reason why a search of `workers` workers was stopped at that end: an owner refuses to expand its next node
-- because it has reached its limit; or the gate may end the search as at a limit, or its stage
abbrev pub IsCauseOf : {S : Type 0} → (S → List ℕ → ℕ → ℕ) → MayStop → ℕ → EndOf S → Cause → Type 0
IsCauseOf owner may_stop workers e cause.Limit = IsRefusedBy owner e owner_fault.LimitReached
IsCauseOf owner may_stop workers e cause.Gate = IsEndedByGate may_stop workers stop.Limit
IsCauseOf owner may_stop workers e cause.Stage = IsEndedByGate may_stop workers stop.Stage

-- the end of a search of `workers` workers: the owners are settled; or they are not, and the search was stopped for
-- this reason
abbrev pub IsSearched : {S F : Type 0} → (S → List ℕ → ℕ → ℕ) → MayStop → SpaceOf S → ℕ → Searched S F → Type 0
IsSearched owner may_stop space workers (Settled e) =
    IsEndIn owner space workers e × ((bound : Distance) × IsSettledAt (space_at owner e) e.owners e.left bound)
IsSearched owner may_stop space workers (Stopped e why) =
    IsEndIn owner space workers e × IsSettledAnswer (space_at owner e) e.owners e.left None × IsCauseOf owner may_stop workers e why

-- the end of a search of `workers` owners, one of which refuses to expand its next node, for this fault
pub record IsRefusedEnd {S : Type 0} (owner : S → List ℕ → ℕ → ℕ) (searched_space : SpaceOf S) (workers : ℕ) (fault : OwnerFault) : Type 0 where
  pub end : EndOf S
  pub is_in : IsEndIn owner searched_space workers end
  pub refused : IsRefusedBy owner end fault

-- the reason why a search of `workers` workers fails: allocation failed; a successor's total is too large; or the gate
-- may make it fail before that turn
abbrev pub IsSearchFault : {S : Type 0} → (S → List ℕ → ℕ → ℕ) → MayStop → SpaceOf S → ℕ → EngineFault → Type 0
IsSearchFault owner may_stop space workers OutOfMemory = Unit {0}
IsSearchFault owner may_stop space workers TotalTooLarge = IsRefusedEnd owner space workers owner_fault.TotalTooLarge
IsSearchFault owner may_stop space workers (Gate worker turn) = (worker < workers) × may_stop worker turn stop.Fail
