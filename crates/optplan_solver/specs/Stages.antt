-- What the stages of a search know.
use Rattle.std.specs.Prelude.{◌≡◌, ℕ, ◌⊎◌, List, [], ◌∷◌, map, Option, Some, None, nat_lt, if◌then◌else◌}
use Rattle.cost.specs.Distances.{Distance, Finite}
use Rattle.fdr.specs.Tasks.{FiniteDomainTask}
use Rattle.packed_spread.specs.Spreads as spread
use Rattle.packed_spread.specs.Spreads.{zobrist_owner}
use Rattle.extract.specs.Ends.{EndOf, IsForm}
use Rattle.engine_round.specs.Turns.{MayStop}
use Rattle.engine_round.specs.declared.gate.Stop.TheVariants as stop
use Rattle.engine.specs.declared.searched.Cause.{Cause}
use Rattle.engine.specs.declared.searched.Cause.TheVariants as cause
use Rattle.scp.specs.Partitions.{mappings_of}
use Rattle.optplan_options.specs.Choices.{Choices}
use Rattle.scp_stages.specs.StageOrders.{AreOrdersOf}
use Rattle.optplan_search.specs.SearchEnds.{single, least_among, greatest_among}
use Rattle.optplan_solver.specs.ThreadedSearches.{IsThreadedEnd, IsStageEnd}
use Rattle.optplan_search.specs.Findings.{Found, Wanted, IsSoFar, IsFound, IsSettledEnd}
use Rattle.optplan_search.specs.declared.found.FoundPlan.{FoundPlan}
use Rattle.optplan_search.specs.declared.answer.SoFar.{SoFar}
use Rattle.optplan_search.specs.declared.answer.Answer.TheVariants.{Solved, Unsolvable, Limit}
use Rattle.optplan_solver.specs.declared.stages.StageFound.{StageFound}
use Rattle.optplan_solver.specs.declared.stages.StageFound.TheVariants.{Answered, Ended}

-- ---- what one search knows, and what another adds

-- the cheaper of two plans, if there are any; the first if they cost the same
abbrev pub cheaper : Option FoundPlan → Option FoundPlan → Option FoundPlan
cheaper None q = q
cheaper (Some p) None = Some p
cheaper (Some p) (Some q) = if nat_lt q.cost p.cost then Some q else Some p

-- the greater bound with its certificate, if there is one, the first if they are equal; and the cheaper plan
abbrev pub better : SoFar FoundPlan → SoFar FoundPlan → SoFar FoundPlan
better known now =
    if nat_lt known.bound now.bound then (record { bound = now.bound; best = cheaper known.best now.best; certificate = now.certificate })
    else (record { bound = known.bound; best = cheaper known.best now.best; certificate = known.certificate })

-- the better of what is known, if anything is
abbrev pub better_known : Option (SoFar FoundPlan) → Option (SoFar FoundPlan) → Option (SoFar FoundPlan)
better_known None now = now
better_known (Some known) None = Some known
better_known (Some known) (Some now) = Some (better known now)

-- a finding, with what is known besides it
abbrev pub with_known : Option (SoFar FoundPlan) → Found → Found
with_known None found = found
with_known (Some known) (Solved s) = Solved s
with_known (Some known) (Unsolvable c) = Unsolvable c
with_known (Some known) (Limit s) = Limit (better known s)

-- ---- what is known at the ends of stages

-- no search is stopped before it is settled, but by the end of a stage: there is no limit on expansions, and the gate
-- never ends a search as at a limit
pub record IsUnlimited (choices : Choices) (may_stop : MayStop) : Type 0 where
  pub limit : choices.limit ≡ None
  pub gate : (worker turn : ℕ) → may_stop worker turn stop.Limit → ⊥

-- all that searches with these ends know of the task, the latest first: nothing if there are none
abbrev pub IsAllOf : FiniteDomainTask → Option Wanted → List (EndOf spread.Zobrist) → Option (SoFar FoundPlan) → Type 0
IsAllOf task wanted [] None = Unit {0}
IsAllOf task wanted [] (Some s) = ⊥
IsAllOf task wanted (e ∷ es) None = ⊥
IsAllOf task wanted (e ∷ es) (Some s) = IsSoFar task wanted (least_among e es) s × (greatest_among zobrist_owner e es ≡ Finite s.bound)

-- what is stored of searches with these ends: all that they know, unless nothing can stop a later one
abbrev pub IsKnownOf : Choices → MayStop → FiniteDomainTask → Option Wanted → List (EndOf spread.Zobrist) → Option (SoFar FoundPlan) → Type 0
IsKnownOf choices may_stop task wanted es known = IsUnlimited choices may_stop ⊎ IsAllOf task wanted es known

-- what a search has found that may be stopped in these ways, but not because a stage ends; it is settled if nothing can
-- stop it
abbrev pub IsSearchFound : Choices → MayStop → FiniteDomainTask → Option Wanted → Found → Type 0
IsSearchFound choices may_stop task wanted found =
    (e : EndOf spread.Zobrist) × IsThreadedEnd choices may_stop task e × (e.space.task ≡ task) × IsFound zobrist_owner (single e) wanted found
    × (IsUnlimited choices may_stop → (bound : Distance) × IsSettledEnd zobrist_owner e bound)

-- what a search has found at its end, as the result of a stage
abbrev pub IsFoundAt : EndOf spread.Zobrist → Option Wanted → StageFound → Type 0
IsFoundAt e wanted (Answered found) = IsForm e × IsFound zobrist_owner (single e) wanted found
IsFoundAt e wanted (Ended known orders) = ⊥

-- the result of a stage whose search was stopped at that end for this reason: what the search has found, or, if the
-- stage ended, what is known, with the orders of the mappings of its columns
abbrev pub IsFoundWhenStopped : Choices → MayStop → Option Wanted → EndOf spread.Zobrist → Cause → StageFound → Type 0
IsFoundWhenStopped choices may_stop wanted e cause.Limit found = IsFoundAt e wanted found
IsFoundWhenStopped choices may_stop wanted e cause.Gate found = IsFoundAt e wanted found
IsFoundWhenStopped choices may_stop wanted e cause.Stage (Answered found) = ⊥
IsFoundWhenStopped choices may_stop wanted e cause.Stage (Ended known orders) =
    IsKnownOf choices may_stop e.space.task wanted (e ∷ []) known
    × AreOrdersOf e.space.task e.space.columns (map mappings_of orders.items)

-- the result of a stage whose search may be stopped in these ways: what the search has found, or what is known at its
-- end, with the orders of the mappings of its columns
abbrev pub IsStageFound : Choices → MayStop → FiniteDomainTask → Option Wanted → StageFound → Type 0
IsStageFound choices may_stop task wanted (Answered found) = IsSearchFound choices may_stop task wanted found
IsStageFound choices may_stop task wanted (Ended known orders) =
    (e : EndOf spread.Zobrist) × IsStageEnd choices may_stop task e × IsKnownOf choices may_stop task wanted (e ∷ []) known
    × AreOrdersOf task e.space.columns (map mappings_of orders.items)
