-- The operators of a task by the variables of their effects.
use Rattle.std.specs.Prelude.{◌≡◌, ℕ, ◌<◌, ◌↔◌, true, List, [], length, map, All, Contains, IsSomeAnd, slice_get, slice_index_or}
use Rattle.std.specs.List.Sorted.{IsStrictlyIncreasing}
use Rattle.fdr.specs.declared.fact.Fact.{Fact}
use Rattle.keyed_lists.specs.declared.lists.Keyed.{Keyed}
use Rattle.keyed_lists.specs.Lists.{items_with}
use Rattle.fdr.specs.Tasks.{FiniteDomainTask, names_variable}

-- the operator has an effect on the variable
abbrev pub HasEffectOn : FiniteDomainTask → ℕ → ℕ → Type 0
HasEffectOn task o v = IsSomeAnd (slice_get task.operators o) (λ op. names_variable op.effect v ≡ true)

-- for each variable the operators with an effect on it, by strictly increasing numbers
pub record AreOperatorsByEffect (task : FiniteDomainTask) (lists : List (List ℕ)) : Type 0 where
  pub as_long : length lists ≡ length task.value_names
  pub increasing : (v : ℕ) → v < length lists → IsStrictlyIncreasing (slice_index_or lists v [])
  pub operators : (v o : ℕ) → v < length lists → Contains (slice_index_or lists v []) o ↔ HasEffectOn task o v

-- an entry for each effect of an operator
abbrev pub entries_of : ℕ → List Fact → List (Keyed ℕ)
entries_of o effect = map (λ f. record { key = f.variable; item = o }) effect

-- the entries of the first n operators
pub record AreEffects (task : FiniteDomainTask) (n : ℕ) (entries : List (Keyed ℕ)) : Type 0 where
  pub keys : All (λ e. e.key < length task.value_names) entries
  pub below : All (λ e. e.item < n) entries
  pub increasing : (v : ℕ) → IsStrictlyIncreasing (items_with v entries)
  pub operators : (v o : ℕ) → Contains (items_with v entries) o ↔ ((o < n) × HasEffectOn task o v)
