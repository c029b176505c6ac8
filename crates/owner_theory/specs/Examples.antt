-- A worked search space: one variable of two values, an operator of cost 1 from 0 to 1, and an owner for each value.
use Rattle.std.specs.Prelude.{true, ◌==◌, [], ◌∷◌, slice_index, if◌then◌else◌}
use Rattle.cost.specs.Distances.{Finite}
use Rattle.fdr.specs.Tasks.{FiniteDomainTask}
use Rattle.owner_theory.specs.Owners.{SearchSpace}

abbrev pub one_step : FiniteDomainTask
one_step =
    record {
      metric = true;
      value_names = ([] ∷ [] ∷ []) ∷ [];
      initial = 0 ∷ [];
      goal = record { variable = 0; value = 1 } ∷ [];
      operators =
          record {
            name = [];
            precondition = record { variable = 0; value = 0 } ∷ [];
            effect = record { variable = 0; value = 1 } ∷ [];
            cost = 1;
          }
          ∷ [];
    }

abbrev pub two_owners : SearchSpace
two_owners =
    record {
      task = one_step;
      heuristic = λ state. Finite 0;
      owner_of = λ state. if slice_index state 0 == 0 then 0 else 1;
      owners = 2;
    }
