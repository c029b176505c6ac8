-- An example: one variable with the values 0, 1 and 2, operators from 0 to 1 and from 1 to 2, and one back to 0 that
-- has no precondition.
use Rattle.std.specs.Prelude.{ℕ, List, [], ◌∷◌, false}
use Rattle.fdr.specs.declared.fact.Fact.{Fact}
use Rattle.fdr.specs.Tasks.{FiniteDomainTask, Operator}

abbrev pub has : ℕ → List Fact
has value = record { variable = 0; value = value } ∷ []

abbrev pub move : List Fact → List Fact → Operator
move precondition effect = record { name = []; precondition = precondition; effect = effect; cost = 1 }

abbrev pub task_with : List Operator → FiniteDomainTask
task_with operators =
    record { metric = false; value_names = ([] ∷ [] ∷ [] ∷ []) ∷ []; initial = 0 ∷ []; goal = has 2; operators = operators }

abbrev pub road : FiniteDomainTask
road = task_with (move (has 0) (has 1) ∷ move (has 1) (has 2) ∷ [])

abbrev pub road_with_return : FiniteDomainTask
road_with_return = task_with (move (has 0) (has 1) ∷ move [] (has 0) ∷ move (has 1) (has 2) ∷ [])
