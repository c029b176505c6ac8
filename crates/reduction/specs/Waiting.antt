-- The operators that change a class once a fact is asked for, and their index by facts.
use Rattle.std.specs.Prelude.{◌≡◌, ℕ, ◌<◌, ◌↔◌, ◌==◌, ◌&&◌, ◌||◌, not, if◌then◌else◌, Bool, true, false, List, [], ◌∷◌, length, Option, Some, None, All, Contains, IsSomeAnd, is_none, slice_get, slice_index, slice_index_or}
use Rattle.std.specs.List.{list_any, flat_map}
use Rattle.fdr.specs.declared.fact.Fact.{Fact}
use Rattle.fdr.specs.Tasks.{FiniteDomainTask, ranges, IsInRange}
use Rattle.abstraction.specs.Facts.{value_in}
use Rattle.keyed_lists.specs.declared.lists.Keyed.{Keyed}
use Rattle.reduction.specs.Facts.{fact}

-- whether the effect turns a value that is asked of its variable into another one, and the fact has one of these two
abbrev pub waits_at : Option ℕ → Fact → Fact → Bool
waits_at None e f = false
waits_at (Some x) e f = not (x == e.value) && (e.variable == f.variable) && ((f.value == x) || (f.value == e.value))

-- whether the effect is on the variable, and no value is asked of it
abbrev pub waits_at_any : Option ℕ → Fact → ℕ → Bool
waits_at_any condition e v = is_none condition && (e.variable == v)

-- the operator with this number waits for the fact
abbrev pub WaitsFor : FiniteDomainTask → Fact → ℕ → Type 0
WaitsFor task f o =
    IsSomeAnd (slice_get task.operators o) (λ op. list_any (λ e. waits_at (value_in op.precondition e.variable) e f) op.effect ≡ true)

-- the operator with this number waits for any fact on the variable
abbrev pub WaitsForAny : FiniteDomainTask → ℕ → ℕ → Type 0
WaitsForAny task v o =
    IsSomeAnd (slice_get task.operators o) (λ op. list_any (λ e. waits_at_any (value_in op.precondition e.variable) e v) op.effect ≡ true)

-- ---- entries

abbrev pub value_entry : ℕ → ℕ → ℕ → Keyed (Keyed ℕ)
value_entry v x o = record { key = v; item = record { key = x; item = o } }

abbrev pub variable_entry : ℕ → ℕ → Keyed ℕ
variable_entry v o = record { key = v; item = o }

-- the entries of an operator for one effect, with the value that is asked of the effect's variable
abbrev pub value_entries : ℕ → Option ℕ → Fact → List (Keyed (Keyed ℕ))
value_entries o None e = []
value_entries o (Some x) e =
    if x == e.value then [] else value_entry e.variable x o ∷ value_entry e.variable e.value o ∷ []

abbrev pub variable_entries : ℕ → Option ℕ → Fact → List (Keyed ℕ)
variable_entries o condition e = if is_none condition then variable_entry e.variable o ∷ [] else []

-- the entries of an operator
abbrev pub all_value_entries : ℕ → List Fact → List Fact → List (Keyed (Keyed ℕ))
all_value_entries o precondition effect = flat_map (λ e. value_entries o (value_in precondition e.variable) e) effect

abbrev pub all_variable_entries : ℕ → List Fact → List Fact → List (Keyed ℕ)
all_variable_entries o precondition effect = flat_map (λ e. variable_entries o (value_in precondition e.variable) e) effect

-- the entries of the first n operators
pub record AreEntries (task : FiniteDomainTask) (n : ℕ) (by_value : List (Keyed (Keyed ℕ))) (by_variable : List (Keyed ℕ)) : Type 0 where
  pub value_keys : All (λ e. IsInRange (ranges task) (fact e.key e.item.key)) by_value
  pub variable_keys : All (λ e. e.key < length (ranges task)) by_variable
  pub values : (f : Fact) (o : ℕ) → Contains by_value (value_entry f.variable f.value o) ↔ ((o < n) × WaitsFor task f o)
  pub variables : (v o : ℕ) → Contains by_variable (variable_entry v o) ↔ ((o < n) × WaitsForAny task v o)

-- ---- the index

-- the operators that wait for a fact
abbrev pub waiting_at : List (List (List ℕ)) → Fact → List ℕ
waiting_at lists f = slice_index_or (slice_index_or lists f.variable []) f.value []

-- for each fact the operators that wait for it, and for each variable those that wait for any fact on it
pub record AreWaiting (task : FiniteDomainTask) (by_value : List (List (List ℕ))) (by_variable : List (List ℕ)) : Type 0 where
  pub fit : (v : ℕ) → v < length (ranges task) → length (slice_index_or by_value v []) ≡ slice_index (ranges task) v
  pub as_many_values : length by_value ≡ length (ranges task)
  pub as_many_variables : length by_variable ≡ length (ranges task)
  pub values : (f : Fact) (o : ℕ) → IsInRange (ranges task) f → Contains (waiting_at by_value f) o ↔ WaitsFor task f o
  pub variables : (v o : ℕ) → v < length (ranges task) → Contains (slice_index_or by_variable v []) o ↔ WaitsForAny task v o
