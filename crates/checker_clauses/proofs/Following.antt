-- Following a plan through a finished closed list.
use Rattle.std.proofs.Common.{◌≡◌, ℕ, ◌+◌, ◌≤◌, true, List, [], ◌∷◌, arith, inl, inr}
use Rattle.std.proofs.lemmas.List.Sums.{sum_by-cons}
use Rattle.cost.specs.Distances.{Distance, Finite, ◌≤ᵈ◌}
use Rattle.cost.proofs.DistanceLaws.{below_more, sum_below}
use Rattle.fdr.specs.Tasks.{FiniteDomainTask, ranges, IsTask, IsState, LeadsToGoal, EveryPlanCostsAtLeast, step, is_goal_state, plan_cost, cost_of}
use Rattle.cert_value.specs.Certificates.{Entry}
use Rattle.checker_clauses.specs.ClosedLists.{IsCovered, CoversSuccessors, IsFinished}
use Rattle.abstraction.specs.Steps.{both, at_some, first_step, step_keeps_state}

module _
    (task : FiniteDomainTask) (well : IsTask task) (h : List ℕ → Distance)
    (lower : (plan s : List ℕ) → IsState (ranges task) s → LeadsToGoal task s plan → h s ≤ᵈ Finite (plan_cost task plan))
    (b : Distance) (closed : List Entry) (done : IsFinished task h b closed)
  where
    -- from a state that is covered at cost g, a plan costs at least what the bound leaves
    covered_reaches : (plan s : List ℕ) (g : ℕ) → IsState (ranges task) s → IsCovered closed h b s g → LeadsToGoal task s plan → b ≤ᵈ Finite (g + plan_cost task plan)
    covered_reaches plan s g ok (inr above) leads = sum_below b (h s) g (plan_cost task plan) above (lower plan s ok leads)
    covered_reaches [] s g ok (inl listed) leads =
        let e = both (λ (e : Entry). is_goal_state task e.state ≡ true → b ≤ᵈ Finite e.cost) (λ (e : Entry). (e.state ≡ s) × (e.cost ≤ g)) closed done.goals listed in
        below_more b e.0.cost (g + 0) (e.1 (rw e.2.0 leads)) (omega (arith, e.2.1))
    covered_reaches (o ∷ plan) s g ok (inl listed) leads =
        let next = first_step task s o plan leads in
        let e = both (λ (e : Entry). CoversSuccessors task closed h b e.state e.cost) (λ (e : Entry). (e.state ≡ s) × (e.cost ≤ g)) closed done.successors listed in
        let covered = at_some (λ t. IsCovered closed h b t (e.0.cost + cost_of task o)) (step task s o) next.0 next.1 (rw e.2.0 at (e.1 o)) in
        let rest = covered_reaches plan next.0 (e.0.cost + cost_of task o) (at_some (IsState (ranges task)) (step task s o) next.0 next.1 (step_keeps_state task well s o ok)) covered next.2 in
        below_more b _ _ rest (omega (arith, e.2.1, sum_by-cons (cost_of task) o plan))

    pub bound_holds : EveryPlanCostsAtLeast task b
    bound_holds plan leads = below_more b _ _ (covered_reaches plan task.initial 0 well.initial done.start leads) (omega arith)
