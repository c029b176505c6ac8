-- An example: a road from a by b to c, with one variable for the location.
use Rattle.std.specs.Prelude.{ℕ, false, List, [], ◌∷◌, codes}
use Rattle.fdr.specs.declared.fact.Fact.{Fact}
use Rattle.fdr.specs.Tasks.{FiniteDomainTask, Operator}

abbrev pub fact : ℕ → ℕ → Fact
fact v x = record { variable = v; value = x }

-- an operator of cost 1
abbrev pub operator : List ℕ → List Fact → List Fact → Operator
operator name precondition effect = record { name = name; precondition = precondition; effect = effect; cost = 1 }

abbrev pub road_task : FiniteDomainTask
road_task =
    record {
      metric = false;
      value_names = (codes "Atom at(a)" ∷ codes "Atom at(b)" ∷ codes "Atom at(c)" ∷ []) ∷ [];
      initial = 0 ∷ [];
      goal = fact 0 2 ∷ [];
      operators = operator (codes "go a b") (fact 0 0 ∷ []) (fact 0 1 ∷ []) ∷ operator (codes "go b c") (fact 0 1 ∷ []) (fact 0 2 ∷ []) ∷ [];
    }

abbrev pub road_lines : List (List ℕ)
road_lines =
    codes "begin_version" ∷ codes "3" ∷ codes "end_version" ∷ codes "begin_metric" ∷ codes "0" ∷ codes "end_metric"
    ∷ codes "1" ∷ codes "begin_variable" ∷ codes "var0" ∷ codes "-1" ∷ codes "3" ∷ codes "Atom at(a)" ∷ codes "Atom at(b)" ∷ codes "Atom at(c)" ∷ codes "end_variable"
    ∷ codes "1" ∷ codes "begin_mutex_group" ∷ codes "3" ∷ codes "0 0" ∷ codes "0 1" ∷ codes "0 2" ∷ codes "end_mutex_group"
    ∷ codes "begin_state" ∷ codes "0" ∷ codes "end_state" ∷ codes "begin_goal" ∷ codes "1" ∷ codes "0 2" ∷ codes "end_goal"
    ∷ codes "2" ∷ codes "begin_operator" ∷ codes "go a b" ∷ codes "0" ∷ codes "1" ∷ codes "0 0 0 1" ∷ codes "1" ∷ codes "end_operator"
    ∷ codes "begin_operator" ∷ codes "go b c" ∷ codes "0" ∷ codes "1" ∷ codes "0 0 1 2" ∷ codes "1" ∷ codes "end_operator" ∷ codes "0" ∷ []
