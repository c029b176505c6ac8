-- What is found at the end of a world is found of its task.
use Rattle.std.proofs.Common.{◌≡◌, ℕ, List, Option, refl, sym, ap, subst, ◌∙◌}
use Rattle.fdr.specs.Tasks.{FiniteDomainTask}
use Rattle.packed_spread.specs.Spreads as spread
use Rattle.packed_spread.specs.Spreads.{zobrist_owner}
use Rattle.owner.specs.Spaces.{SpaceOf}
use Rattle.owner.specs.declared.fault.OwnerFault.TheVariants as owner_fault
use Rattle.extract.specs.Ends.{EndOf}
use Rattle.netcore.specs.declared.step.WorldStep.{WorldStep}
use Rattle.netcore.specs.Worlds.{WorldOf, IsRun, IsRunRefusal, left_in}
use Rattle.optplan_options.specs.Choices.{Choices}
use Rattle.optplan_search.specs.SearchEnds.{EndsOf, single}
use Rattle.optplan_search.specs.Findings.{Found, Wanted, IsOwnFinding, IsFound}
use Rattle.optplan_search.specs.Schedules.{IsSimulated, IsSimulationRefusal}
use Rattle.optplan_search.specs.Searches.{IsSimulatedSpace, end_of, EndsAfter, EndsBySeed, IsRefusedAfter, IsRefusedBySeed}
use Rattle.optplan_search.specs.declared.fault.SearchFault.TheVariants.{TotalTooLarge}

-- what is at an end is what a world was
pub record IsEndOfWorld {S : Type 0} (w : WorldOf S) (e : EndOf S) : Type 0 where
  pub space : e.space ≡ w.space
  pub owners : e.owners ≡ w.owners
  pub left : e.left ≡ left_in w

is_end_of : {S : Type 0} (w : WorldOf S) (e : EndOf S) → IsEndOfWorld w e → e ≡ end_of w
is_end_of w e is = λ i. record { space = is.space i; owners = is.owners i; left = is.left i }

-- what is found at the end of a world is found for the task of its space
pub found_at_end : (task : FiniteDomainTask) (wanted : Option Wanted) (ends : EndsOf spread.Zobrist → Type 0) (space : SpaceOf spread.Zobrist)
    (w : WorldOf spread.Zobrist) (e : EndOf spread.Zobrist) (f : Found) → space.task ≡ task → w.space ≡ space → ends (single (end_of w)) → IsEndOfWorld w e
    → IsFound zobrist_owner (single e) wanted f → IsOwnFinding task wanted ends f
found_at_end task wanted ends space w e f task_is over ended is found = record {
  at = single e;
  ended = subst ends (sym (ap single (is_end_of w e is))) ended;
  task_is = ap (λ (sp : SpaceOf spread.Zobrist). sp.task) (is.space ∙ over) ∙ task_is;
  found = found;
}

module _ (choices : Choices) (task : FiniteDomainTask) (space : SpaceOf spread.Zobrist) (is_space : IsSimulatedSpace task choices space)
    (n : ℕ) (n_is : n ≡ choices.workers)
  where
    -- after a list of steps
    pub ends_after_steps : (steps : List WorldStep) (w : WorldOf spread.Zobrist) → IsRun zobrist_owner space n steps w → EndsAfter choices steps task (single (end_of w))
    ends_after_steps steps w run = (space, is_space, (w, subst (λ (k : ℕ). IsRun zobrist_owner space k steps w) n_is run, refl))

    -- after random steps
    pub ends_after_drawn : (seed most : ℕ) (w : WorldOf spread.Zobrist) → most ≡ choices.steps → IsSimulated zobrist_owner space n seed most w
        → EndsBySeed choices seed task (single (end_of w))
    ends_after_drawn seed most w most_is run = (
      space,
      is_space,
      (
        w,
        subst (λ (m : ℕ). IsSimulated zobrist_owner space choices.workers seed m w) most_is
            (subst (λ (k : ℕ). IsSimulated zobrist_owner space k seed most w) n_is run),
        refl,
      ),
    )

    -- where a step leads past the greatest total
    pub large_after : (steps : List WorldStep) → IsRunRefusal zobrist_owner space n steps owner_fault.TotalTooLarge
        → IsRefusedAfter choices steps task TotalTooLarge
    large_after steps refused = (space, is_space, subst (λ (k : ℕ). IsRunRefusal zobrist_owner space k steps owner_fault.TotalTooLarge) n_is refused)

    pub large_by_seed : (seed : ℕ) → IsSimulationRefusal zobrist_owner space n seed owner_fault.TotalTooLarge
        → IsRefusedBySeed choices seed task TotalTooLarge
    large_by_seed seed refused =
        (space, is_space, subst (λ (k : ℕ). IsSimulationRefusal zobrist_owner space k seed owner_fault.TotalTooLarge) n_is refused)
