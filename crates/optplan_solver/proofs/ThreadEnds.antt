-- What is found at the end of a search by threads is found of its task.
use Rattle.std.proofs.Common.{◌≡◌, ◌≢◌, ℕ, [], ◌∷◌, map, Option, inl, inr, sym, ap, subst, ◌∙◌}
use Rattle.fdr.specs.Tasks.{FiniteDomainTask}
use Rattle.packed_spread.specs.Spreads as spread
use Rattle.packed_spread.specs.Spreads.{zobrist_owner}
use Rattle.owner.specs.Spaces.{SpaceOf}
use Rattle.extract.specs.Ends.{EndOf}
use Rattle.engine_round.specs.Turns.{MayStop}
use Rattle.scp.specs.Partitions.{mappings_of}
use Rattle.engine.specs.Searches.{IsSearched}
use Rattle.engine.specs.declared.searched.Cause.{Cause}
use Rattle.engine.specs.declared.searched.Cause.TheVariants as cause
use Rattle.engine.specs.declared.searched.Searched.TheVariants.{Settled, Stopped}
use Rattle.optplan_options.specs.Choices.{Choices}
use Rattle.optplan_search.specs.Findings.{Wanted}
use Rattle.optplan_solver.specs.ThreadedSearches.{IsThreadedSpace}
use Rattle.scp_stages.specs.StageOrders.{AreOrdersOf}
use Rattle.optplan_solver.specs.Stages.{IsKnownOf, IsFoundAt, IsFoundWhenStopped, IsStageFound}
use Rattle.optplan_search.specs.declared.found.FoundPlan.{FoundPlan}
use Rattle.optplan_search.specs.declared.answer.SoFar.{SoFar}
use Rattle.optplan_solver.specs.declared.stages.StageFound.{StageFound}
use Rattle.optplan_solver.specs.declared.stages.StageFound.TheVariants.{Answered, Ended}
use Rattle.optplan_solver.proofs.StageEnds.{Orders, unlimited_goes_on}

-- a space of a task is one of its own task
pub of_own_task : (task : FiniteDomainTask) (choices : Choices) (space : SpaceOf spread.Zobrist) → IsThreadedSpace task choices space → IsThreadedSpace space.task choices space
of_own_task task choices space is = subst (λ (t : FiniteDomainTask). IsThreadedSpace t choices space) (sym is.task_is) is

module _ (choices : Choices) (may_stop : MayStop) (task : FiniteDomainTask) (wanted : Option Wanted) (space : SpaceOf spread.Zobrist) (is_space : IsThreadedSpace task choices space)
    (n : ℕ) (n_is : n ≡ choices.workers)
  where
    same_task : (e : EndOf spread.Zobrist) → e.space ≡ space → e.space.task ≡ task
    same_task e over = ap (λ (sp : SpaceOf spread.Zobrist). sp.task) over ∙ is_space.task_is

    -- where the owners are settled
    pub found_settled : (e : EndOf spread.Zobrist) (f : StageFound) → IsSearched {F = Unit {0}} zobrist_owner may_stop space n (Settled e)
        → IsFoundAt e wanted f → IsStageFound choices may_stop task wanted f
    found_settled e (Ended known orders) ends found = absurd found
    found_settled e (Answered f) ends found = (
      e,
      (space, is_space, inl (subst (λ (k : ℕ). IsSearched {F = Unit {0}} zobrist_owner may_stop space k (Settled e)) n_is ends)),
      same_task e ends.0.space,
      found.1,
      λ unlimited. ends.1,
    )

    -- where they were stopped before, and not because a stage ended
    stopped_otherwise : (e : EndOf spread.Zobrist) (why : Cause) (f : StageFound) → why ≢ cause.Stage
        → IsSearched {F = Unit {0}} zobrist_owner may_stop space n (Stopped e why)
        → IsFoundAt e wanted f → IsStageFound choices may_stop task wanted f
    stopped_otherwise e why (Ended known orders) other ends found = absurd found
    stopped_otherwise e why (Answered f) other ends found = (
      e,
      (space, is_space, inr (why, other, subst (λ (k : ℕ). IsSearched {F = Unit {0}} zobrist_owner may_stop space k (Stopped e why)) n_is ends)),
      same_task e ends.0.space,
      found.1,
      λ unlimited. absurd (unlimited_goes_on choices may_stop task space n e why is_space found.0 other ends unlimited),
    )

    -- where they were stopped because a stage ended
    stage_ended : (e : EndOf spread.Zobrist) (known : Option (SoFar FoundPlan)) (orders : Orders)
        → IsSearched {F = Unit {0}} zobrist_owner may_stop space n (Stopped e cause.Stage)
        → IsFoundWhenStopped choices may_stop wanted e cause.Stage (Ended known orders) → IsStageFound choices may_stop task wanted (Ended known orders)
    stage_ended e known orders ends (is, have) = (
      e,
      (space, is_space, subst (λ (k : ℕ). IsSearched {F = Unit {0}} zobrist_owner may_stop space k (Stopped e cause.Stage)) n_is ends),
      subst (λ (t : FiniteDomainTask). IsKnownOf choices may_stop t wanted (e ∷ []) known) (same_task e ends.0.space) is,
      subst (λ (t : FiniteDomainTask). AreOrdersOf t e.space.columns (map mappings_of orders.items)) (same_task e ends.0.space) have,
    )

    -- where they were stopped before, for any reason
    pub found_stopped : (e : EndOf spread.Zobrist) (why : Cause) (f : StageFound) → IsSearched {F = Unit {0}} zobrist_owner may_stop space n (Stopped e why)
        → IsFoundWhenStopped choices may_stop wanted e why f → IsStageFound choices may_stop task wanted f
    found_stopped e cause.Limit f ends found =
        let other : cause.Limit ≢ cause.Stage = λ same. cc in stopped_otherwise e cause.Limit f other ends found
    found_stopped e cause.Gate f ends found =
        let other : cause.Gate ≢ cause.Stage = λ same. cc in stopped_otherwise e cause.Gate f other ends found
    found_stopped e cause.Stage (Answered f) ends found = absurd found
    found_stopped e cause.Stage (Ended known orders) ends found = stage_ended e known orders ends found
