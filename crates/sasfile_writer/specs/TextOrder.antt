-- The task that a written text spells: its preconditions have another order, prevail conditions before the others.
use Rattle.std.specs.Prelude.{◌≡◌, ℕ, ◌≤◌, true, List, ◌++◌, map, length, slice_get, Some, All}
use Rattle.std.specs.List.{list_all, filter_map}
use Rattle.std.specs.Option.{option_map}
use Rattle.fdr.specs.declared.fact.Fact.{Fact}
use Rattle.fdr.specs.Tasks.{FiniteDomainTask, Operator, IsTask, IsWithinLimits}
use Rattle.sasfile_reader.specs.Lines.{is_text_byte, trimmed}
use Rattle.sasfile_writer.specs.Written.{prevail, value_of}
use Rattle.cost.specs.Limits.{max_cost}

-- the facts of the precondition on variables of the effect, in the order of the effect
abbrev pub changed : Operator → List Fact
changed op = filter_map (λ f. option_map (λ x. record { variable = f.variable; value = x }) (value_of op.precondition f.variable)) op.effect

abbrev pub reordered : Operator → Operator
reordered op = record op { precondition = prevail op ++ changed op }

abbrev pub in_text_order : FiniteDomainTask → FiniteDomainTask
in_text_order task = record task { operators = map reordered task.operators }

-- a name of printable bytes with no blank at its end
pub record IsName (name : List ℕ) : Type 0 where
  pub printed : list_all is_text_byte name ≡ true
  pub whole : trimmed name ≡ name

-- a well-formed task with names and costs that the format can express
pub record CanBeWritten (task : FiniteDomainTask) (sizes : List ℕ) : Type 0 where
  pub task_ok : IsTask task
  pub within : IsWithinLimits task
  pub values : All (λ names. All IsName names) task.value_names
  pub operators : All (λ op. IsName op.name) task.operators
  pub costs : All (λ op. op.cost ≤ max_cost) task.operators
  pub as_many : length sizes ≡ length task.value_names
  pub in_range : (v size : ℕ) (names : List (List ℕ)) → slice_get sizes v ≡ Some size → slice_get task.value_names v ≡ Some names → size ≤ length names
