-- Finite-domain tasks from their parts.
use Rattle.std.specs.Prelude.{ℕ, ◌≤◌, true, List, [], ◌∷◌, map, replicate}
use Rattle.fdr.specs.Tasks.{FiniteDomainTask, Operator}
use Rattle.fdr.specs.declared.fact.Fact.{Fact}

-- an operator without a name
abbrev pub unnamed : List Fact → List Fact → ℕ → Operator
unnamed precondition effect cost = record { name = []; precondition = precondition; effect = effect; cost = cost }

-- for each range, that number of empty names
abbrev pub blank_names : List ℕ → List (List (List ℕ))
blank_names ranges = map (λ n. replicate n []) ranges

-- the task with these ranges and parts, and with the metric
abbrev pub task_with : List ℕ → List ℕ → List Fact → List Operator → FiniteDomainTask
task_with ranges initial goal operators =
    record { metric = true; value_names = blank_names ranges; initial = initial; goal = goal; operators = operators }

-- a step (value before, value after, cost) as an operator on variable 0
abbrev pub step_operator : ℕ × ℕ × ℕ → Operator
step_operator (before, after, cost) =
    unnamed (record { variable = 0; value = before } ∷ []) (record { variable = 0; value = after } ∷ []) cost

-- the cost of the step is at most the greatest cost of an operator
abbrev pub IsPriced : ℕ × ℕ × ℕ → Type 0
IsPriced (before, after, cost) = cost ≤ 2147483647

-- the task of one variable, which is initially 0, with the goal value `goal` and these steps as operators
abbrev pub walk_task : ℕ → ℕ → List (ℕ × ℕ × ℕ) → FiniteDomainTask
walk_task values goal steps =
    task_with (values ∷ []) (0 ∷ []) (record { variable = 0; value = goal } ∷ []) (map step_operator steps)
