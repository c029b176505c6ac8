-- The ends of searches by threads, as the caller's gate may stop them.
use Rattle.std.proofs.Common.{◌≡◌, ◌≢◌, ℕ, Bool, true, false, Option, Some, None, refl, ap, ◌∙◌, inl, inr}
use Rattle.std.specs.Prelude.{Vec}
use Rattle.std.specs.Global.{Global}
use Rattle.abstraction_mapping.specs.declared.mapping.Mapping.{Mapping as KeptMapping}
use Rattle.fdr.specs.Tasks.{FiniteDomainTask}
use Rattle.packed_spread.specs.Spreads as spread
use Rattle.packed_spread.specs.Spreads.{zobrist_owner}
use Rattle.owner.specs.Spaces.{SpaceOf}
use Rattle.extract.specs.Ends.{EndOf, IsForm}
use Rattle.engine_round.specs.Turns.{MayStop}
use Rattle.engine.specs.Searches.{IsSearched}
use Rattle.engine.specs.declared.searched.Cause.{Cause}
use Rattle.engine.specs.declared.searched.Cause.TheVariants as cause
use Rattle.engine.specs.declared.searched.Searched.TheVariants.{Stopped}
use Rattle.optplan_options.specs.Choices.{Choices}
use Rattle.optplan_search.specs.Findings.{Wanted}
use Rattle.optplan_solver.specs.ThreadedSearches.{IsThreadedSpace, IsThreadedEnd, IsRefusedIn, stops_in}
use Rattle.optplan_solver.specs.Stages.{IsUnlimited, IsStageFound}
use Rattle.optplan_search.specs.declared.found.FoundPlan.{FoundPlan}
use Rattle.optplan_search.specs.declared.answer.SoFar.{SoFar}
use Rattle.optplan_search.specs.declared.fault.SearchFault.{SearchFault}
use Rattle.optplan_search.specs.declared.fault.SearchFault.TheVariants.{OutOfMemory, TotalTooLarge}
use Rattle.optplan_solver.specs.declared.stages.StageFound.TheVariants.{Ended}

-- orders of mappings, as stages pass them on
abbrev pub Orders : Type 0
Orders = Vec (Vec KeptMapping Global) Global

module _ (has_end : Bool) (choices : Choices) (may_stop : MayStop) where
  pub callers_unlimited : IsUnlimited choices (stops_in has_end may_stop) → IsUnlimited choices may_stop
  callers_unlimited unlimited = record { limit = unlimited.limit; gate = unlimited.gate }

  callers_stop : (space : SpaceOf spread.Zobrist) (n : ℕ) (e : EndOf spread.Zobrist) (why : Cause) → why ≢ cause.Stage
      → IsSearched {F = Unit {0}} zobrist_owner (stops_in has_end may_stop) space n (Stopped e why)
      → IsSearched {F = Unit {0}} zobrist_owner may_stop space n (Stopped e why)
  callers_stop space n e cause.Limit other ends = ends
  callers_stop space n e cause.Gate other ends =
      let by = ends.2 in (ends.0, ends.1, record { worker = by.worker; within = by.within; turn = by.turn; stops = by.stops })
  callers_stop space n e cause.Stage other ends = absurd (other refl)

  -- an end that is not that of a stage is one by the caller's gate
  pub callers_end : (task : FiniteDomainTask) (e : EndOf spread.Zobrist) → IsThreadedEnd choices (stops_in has_end may_stop) task e
      → IsThreadedEnd choices may_stop task e
  callers_end task e (space, is_space, inl ends) = (space, is_space, inl ends)
  callers_end task e (space, is_space, inr (why, other, ends)) =
      (space, is_space, inr (why, other, callers_stop space choices.workers e why other ends))

  pub callers_refusal : (task : FiniteDomainTask) (f : SearchFault) → IsRefusedIn choices (stops_in has_end may_stop) task f
      → IsRefusedIn choices may_stop task f
  callers_refusal task OutOfMemory why = tt
  callers_refusal task TotalTooLarge why = why

-- a stage without an end does not end
pub never_ended : (choices : Choices) (may_stop : MayStop) (task : FiniteDomainTask) (wanted : Option Wanted) (known : Option (SoFar FoundPlan)) (orders : Orders)
    → IsStageFound choices (stops_in false may_stop) task wanted (Ended known orders) → ⊥
never_ended choices may_stop task wanted known orders (e, (space, is_space, ends), is, have) = let never : false ≡ true = ends.2.stops in cc

none_apart : (limit : Option ℕ) (n : ℕ) → limit ≡ None → limit ≡ Some n → ⊥
none_apart limit n none some = cc

-- a search that nothing can stop, but the end of a stage, is not stopped before it is settled
pub unlimited_goes_on : (choices : Choices) (may_stop : MayStop) (task : FiniteDomainTask) (space : SpaceOf spread.Zobrist) (n : ℕ)
    (e : EndOf spread.Zobrist) (why : Cause) → IsThreadedSpace task choices space → IsForm e → why ≢ cause.Stage
    → IsSearched {F = Unit {0}} zobrist_owner may_stop space n (Stopped e why) → IsUnlimited choices may_stop → ⊥
unlimited_goes_on choices may_stop task space n e cause.Limit is_space form other ends unlimited =
    let by = ends.2 in
    let over : by.holder.space ≡ space = (form.each by.number by.holder by.there).0 ∙ ends.0.space in
    none_apart by.holder.space.limit by.holder.expansions
    (ap (λ (s : SpaceOf spread.Zobrist). s.limit) over ∙ is_space.limit_is ∙ unlimited.limit)
    by.refusal.1
unlimited_goes_on choices may_stop task space n e cause.Gate is_space form other ends unlimited =
    unlimited.gate ends.2.worker ends.2.turn ends.2.stops
unlimited_goes_on choices may_stop task space n e cause.Stage is_space form other ends unlimited = other refl
