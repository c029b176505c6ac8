-- The reduced task under classes of values (Helmert 2006, "The Fast Downward planning system", leaves out variables
-- that no goal needs; Hernádvölgyi and Holte 2000, domain abstraction): each value is replaced by its class, and the
-- variables that do not stay are left out.
use Rattle.std.specs.Prelude.{ℕ, List, [], map, option_map, Option, replicate, slice_get, slice_index}
use Rattle.std.specs.List.{filter_map}
use Rattle.fdr.specs.declared.fact.Fact.{Fact}
use Rattle.fdr.specs.Tasks.{FiniteDomainTask, Operator}
use Rattle.abstraction_domain.specs.Rows.{class_count}
use Rattle.reduction_classes.specs.Classes.{row_of, class_of, staying, number_of}

-- the image of a state: the classes of the values of the variables that stay
abbrev pub reduced_state : List (List ℕ) → List ℕ → List ℕ
reduced_state classes state = map (λ v. class_of classes v (slice_index state v)) (staying classes)

-- the image of a fact: the new number of its variable, and the class of its value; none if the variable is left out
abbrev pub reduced_fact : List (List ℕ) → Fact → Option Fact
reduced_fact classes f =
    option_map (λ n. record { variable = n; value = class_of classes f.variable f.value }) (number_of classes f.variable)

abbrev pub reduced_facts : List (List ℕ) → List Fact → List Fact
reduced_facts classes facts = filter_map (reduced_fact classes) facts

-- the image of an operator; it has no name, since plans are written with the operators of the task
abbrev pub reduced_operator : List (List ℕ) → Operator → Operator
reduced_operator classes op =
    record {
      name = [];
      precondition = reduced_facts classes op.precondition;
      effect = reduced_facts classes op.effect;
      cost = op.cost;
    }

-- the reduced task with the images of these operators; the names of its values are empty
abbrev pub reduced_with : List (List ℕ) → FiniteDomainTask → List Operator → FiniteDomainTask
reduced_with classes task operators =
    record {
      metric = task.metric;
      value_names = map (λ v. replicate (class_count (row_of classes v)) []) (staying classes);
      initial = reduced_state classes task.initial;
      goal = reduced_facts classes task.goal;
      operators = map (reduced_operator classes) operators;
    }

-- the operators with these numbers, in this order
abbrev pub chosen : List Operator → List ℕ → List Operator
chosen operators numbers = filter_map (slice_get operators) numbers

-- the reduced task: the operators have the numbers that they have in the task
abbrev pub reduced_task : List (List ℕ) → FiniteDomainTask → FiniteDomainTask
reduced_task classes task = reduced_with classes task task.operators
