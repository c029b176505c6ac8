-- Closed lists: states that were reached, whose successors are all in the list or reach the bound.
use Rattle.std.specs.Prelude.{◌≡◌, ℕ, ◌+◌, ◌≤◌, true, ◌⊎◌, List, IfSome, All, Any}
use Rattle.cost.specs.Distances.{Distance, Finite, ◌≤ᵈ◌, ◌+ᵈ◌}
use Rattle.cert_value.specs.Certificates.{Entry}
use Rattle.fdr.specs.Tasks.{FiniteDomainTask, ranges, IsState, step, is_goal_state, cost_of}

-- the state is in the closed list with at most this cost
abbrev pub IsListed : List Entry → List ℕ → ℕ → Type 0
IsListed closed state g = Any (λ e. (e.state ≡ state) × (e.cost ≤ g)) closed

-- the state is in the closed list with at most this cost, or the cost and the heuristic value sum to at least the bound
abbrev pub IsCovered : List Entry → (List ℕ → Distance) → Distance → List ℕ → ℕ → Type 0
IsCovered closed h bound state g = IsListed closed state g ⊎ (bound ≤ᵈ Finite g +ᵈ h state)

-- each successor of the state, reached at cost g, is covered at the sum of g and the operator's cost
abbrev pub CoversSuccessors : FiniteDomainTask → List Entry → (List ℕ → Distance) → Distance → List ℕ → ℕ → Type 0
CoversSuccessors task closed h bound state g =
    (o : ℕ) → IfSome (step task state o) (λ s. IsCovered closed h bound s (g + cost_of task o))

-- the initial state is covered at 0, closed goal states cost at least the bound, and the successors of closed states
-- are covered
pub record IsFinished (task : FiniteDomainTask) (h : List ℕ → Distance) (bound : Distance) (closed : List Entry) : Type 0 where
  pub states : All (λ e. IsState (ranges task) e.state) closed
  pub start : IsCovered closed h bound task.initial 0
  pub goals : All (λ e. is_goal_state task e.state ≡ true → bound ≤ᵈ Finite e.cost) closed
  pub successors : All (λ e. CoversSuccessors task closed h bound e.state e.cost) closed
