-- The steps of a multi-threaded search: a round, and its outcome.
use Rattle.std.specs.Prelude.{◌≡◌, ℕ, ◌<◌, List, [], length, All, Option, Some, None, Result, Ok, Err}
use Rattle.owner.specs.Spaces.{SpaceOf}
use Rattle.engine_round.specs.Turns.{MayStop}
use Rattle.engine_round.specs.declared.gate.Stop.TheVariants.{Fail, Limit, Stage}
use Rattle.engine_round.specs.declared.fault.TurnFault.{TurnFault}
use Rattle.engine_round.specs.declared.fault.TurnFault.TheVariants.{Owner, Gate}
use Rattle.engine.specs.Teams.{TeamOf}
use Rattle.engine.specs.declared.fault.EngineFault.{EngineFault}
use Rattle.engine.specs.declared.fault.EngineFault.TheVariants as engine
use Rattle.engine.specs.declared.halt.Halt.{Halt}
use Rattle.engine.specs.declared.halt.Halt.TheVariants.{Refused, ByGate}
use Rattle.engine.specs.declared.searched.Cause.{Cause}
use Rattle.engine.specs.declared.searched.Cause.TheVariants as cause
use Rattle.engine.specs.declared.searches.Outcome.{Outcome}
use Rattle.engine.specs.declared.searches.Outcome.TheVariants.{Next, Last}
use Rattle.engine.specs.Searches.{IsEndedByGate, IsSearched}

-- the meaning of a round's fault for the search, which it may make fail
abbrev pub halt_of : Option (ℕ × TurnFault) → Result (Option Halt) EngineFault
halt_of None = Ok None
halt_of (Some (worker, Owner fault)) = Ok (Some (Refused worker))
halt_of (Some (worker, Gate turn Fail)) = Err (engine.Gate worker turn)
halt_of (Some (worker, Gate turn Limit)) = Ok (Some (ByGate cause.Gate))
halt_of (Some (worker, Gate turn Stage)) = Ok (Some (ByGate cause.Stage))

-- the gate may end a search of `workers` workers for this reason
abbrev pub IsByGate : MayStop → ℕ → Cause → Type 0
IsByGate may_stop workers cause.Limit = ⊥
IsByGate may_stop workers cause.Gate = IsEndedByGate may_stop workers Limit
IsByGate may_stop workers cause.Stage = IsEndedByGate may_stop workers Stage

-- the reason why a round of `workers` workers ended early: the owner of one of them refused; or the gate may end the
-- search for this reason
abbrev pub IsHalt : MayStop → ℕ → Option Halt → Type 0
IsHalt may_stop workers None = Unit {0}
IsHalt may_stop workers (Some (Refused worker)) = worker < workers
IsHalt may_stop workers (Some (ByGate why)) = IsByGate may_stop workers why

-- a team of `workers` workers in that space
pub record IsTeamIn {S F : Type 0} (searched_space : SpaceOf S) (workers : ℕ) (t : TeamOf S F) : Type 0 where
  pub space : t.space ≡ searched_space
  pub count : length t.workers ≡ workers

-- a team that can play a round: no worker has set a message aside
pub record IsReadyIn {S F : Type 0} (searched_space : SpaceOf S) (workers : ℕ) (t : TeamOf S F) : Type 0 where
  pub is_in : IsTeamIn searched_space workers t
  pub none_aside : All (λ w. w.misfits ≡ []) t.workers

-- no gate ends the search
abbrev pub no_stop : MayStop
no_stop worker turn stop = ⊥

-- the outcome of a round: another one of the team, or the end of the search
abbrev pub IsOutcome : {S F : Type 0} → (S → List ℕ → ℕ → ℕ) → MayStop → SpaceOf S → ℕ → Outcome S F → Type 0
IsOutcome owner may_stop space workers (Next t) = IsReadyIn space workers t
IsOutcome owner may_stop space workers (Last end) = IsSearched owner may_stop space workers end
