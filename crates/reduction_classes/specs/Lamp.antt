-- An example: a road from a by b to c, and a lamp that no goal needs.
use Rattle.std.specs.Prelude.{ℕ, false, List, [], ◌∷◌, codes}
use Rattle.fdr.specs.declared.fact.Fact.{Fact}
use Rattle.fdr.specs.Tasks.{FiniteDomainTask, Operator}

abbrev pub fact : ℕ → ℕ → Fact
fact v x = record { variable = v; value = x }

-- an operator of cost 1
abbrev pub operator : List ℕ → List Fact → List Fact → Operator
operator name precondition effect = record { name = name; precondition = precondition; effect = effect; cost = 1 }

-- variable 0 is the location, and variable 1 the lamp: on or off
abbrev pub road_with_lamp : FiniteDomainTask
road_with_lamp =
    record {
      metric = false;
      value_names = (codes "a" ∷ codes "b" ∷ codes "c" ∷ []) ∷ (codes "on" ∷ codes "off" ∷ []) ∷ [];
      initial = 0 ∷ 1 ∷ [];
      goal = fact 0 2 ∷ [];
      operators = operator (codes "go a b") (fact 0 0 ∷ []) (fact 0 1 ∷ []) ∷ operator (codes "go b c") (fact 0 1 ∷ []) (fact 0 2 ∷ [])
          ∷ operator (codes "switch-on") [] (fact 1 0 ∷ []) ∷ operator (codes "switch-off") (fact 1 0 ∷ []) (fact 1 1 ∷ []) ∷ [];
    }

-- a task with one variable, an initial value and a value of the goal, and operators without names
abbrev pub with_one_variable : List (List ℕ) → ℕ → ℕ → List Operator → FiniteDomainTask
with_one_variable names initial goal operators =
    record { metric = false; value_names = names ∷ []; initial = initial ∷ []; goal = fact 0 goal ∷ []; operators = operators }
