-- Operators that can change a state. The successor of a state under any other operator is that state itself.
use Rattle.std.specs.Prelude.{ℕ, Bool, false, ◌==◌, ◌&&◌, not, nat_le, List, length, map, slice_index_or}
use Rattle.std.specs.List.{list_all, list_any}
use Rattle.fdr.specs.declared.fact.Fact.{Fact}
use Rattle.fdr.specs.Tasks.{FiniteDomainTask, Operator}

abbrev pub is_same : Fact → Fact → Bool
is_same f g = (f.variable == g.variable) && (f.value == g.value)

-- the fact is one of these
abbrev pub is_among : List Fact → Fact → Bool
is_among facts f = list_any (is_same f) facts

-- there are at most 64 effects, and each is one of the conditions
abbrev pub leaves_states : Operator → Bool
leaves_states op = nat_le (length op.effect) 64 && list_all (is_among op.precondition) op.effect

-- for each operator of the task whether it can change a state
abbrev pub changes_of : FiniteDomainTask → List Bool
changes_of task = map (λ op. not (leaves_states op)) task.operators

-- the operator with this number can change a state and affects the abstraction
abbrev pub is_tried : List Bool → (ℕ → Bool) → ℕ → Bool
is_tried changes touches o = slice_index_or changes o false && touches o
