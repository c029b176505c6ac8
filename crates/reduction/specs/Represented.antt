-- Representatives: for each operator of a task the equal retained one. Operators without one change no state of the
-- reduced task.
use Rattle.std.specs.Prelude.{◌≡◌, ℕ, ◌≤◌, ◌⊎◌, List, [], length, Option, Some, None, All, Contains, IfSome, IsSomeAnd, slice_get, slice_index}
use Rattle.fdr.specs.declared.fact.Fact.{Fact}
use Rattle.fdr.specs.Tasks.{FiniteDomainTask, Operator, ranges, cost_of}
use Rattle.reduction_classes.specs.Reduced.{reduced_operator, reduced_with}
use Rattle.reduction.specs.Retained.{AreEqualAt}

-- the fact is one of these conditions, or its variable has a single value, so that it holds if they hold
abbrev pub IsGiven : List ℕ → List Fact → Fact → Type 0
IsGiven ranges precondition f = Contains precondition f ⊎ (slice_index ranges f.variable ≡ 1)

-- the operator leaves each state in which it applies as it is
abbrev pub LeavesStates : List ℕ → Operator → Type 0
LeavesStates ranges op = All (IsGiven ranges op.precondition) op.effect

-- the operator at this index of the retained ones is equal and costs at most as much, and an operator without one
-- leaves the states of the reduced task
abbrev pub IsRepresentedBy : FiniteDomainTask → List (List ℕ) → List ℕ → ℕ → Option ℕ → Type 0
IsRepresentedBy task classes retained o (Some k) =
    IsSomeAnd (slice_get retained k) (λ p. AreEqualAt task classes o p × (cost_of task p ≤ cost_of task o))
IsRepresentedBy task classes retained o None =
    IsSomeAnd (slice_get task.operators o) (λ op. LeavesStates (ranges (reduced_with classes task [])) (reduced_operator classes op))

-- the same of each operator of the task
pub record AreRepresented (task : FiniteDomainTask) (classes : List (List ℕ)) (retained : List ℕ) (representatives : List (Option ℕ)) : Type 0 where
  pub as_many : length representatives ≡ length task.operators
  pub each : (o : ℕ) → IfSome (slice_get representatives o) (IsRepresentedBy task classes retained o)
