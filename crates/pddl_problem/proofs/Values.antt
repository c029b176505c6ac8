-- Values of functions, and the map that holds them.
use Rattle.std.proofs.Common.{◌≡◌, ℕ, Bool, true, false, cond, List, [], ◌∷◌, ◌++◌, refl, sym, ap, ◌∙◌}
use Rattle.std.specs.Prelude.{Option, Some, None, is_some, if◌then◌else◌, not, ◌==◌}
use Rattle.std.specs.Option.{option_map, option_map_or}
use Rattle.std.specs.Map.{lookup}
use Rattle.indexmap.specs.IndexMap.{insert_entry}
use Rattle.pddl_task.specs.Atoms.{Atom, same_atom}
use Rattle.pddl_task.specs.Planning.{FunctionValue}
use Rattle.pddl_task.proofs.CostLaws.{value-lookup}
use Rattle.pddl_problem.specs.Initial.{value_among, with_value, is_restated, values_of}

abbrev pub value_at : Atom → ℕ → FunctionValue
value_at p n = record { function = p; value = n }

-- where the map has no value, none is among the stated ones
pub none_among : (entries : List (Atom × ℕ)) (p : Atom) → lookup (same_atom p) entries ≡ None → value_among (values_of entries) p ≡ None
none_among entries p h = go (value_among (values_of entries) p) (value-lookup p entries ∙ h)
  where
    go : (v : Option FunctionValue) → option_map (λ (w : FunctionValue). w.value) v ≡ None → v ≡ None
    go None e = refl
    go (Some w) e = cc e

-- where it has one, that one is
pub some_among : (entries : List (Atom × ℕ)) (p : Atom) (n : ℕ) → lookup (same_atom p) entries ≡ Some n → option_map (λ (w : FunctionValue). w.value) (value_among (values_of entries) p) ≡ Some n
some_among entries p n h = value-lookup p entries ∙ h

-- a new term goes last
inserted : (entries : List (Atom × ℕ)) (p : Atom) (n : ℕ) → lookup (same_atom p) entries ≡ None → values_of (insert_entry same_atom entries p n) ≡ values_of entries ++ value_at p n ∷ []
inserted [] p n h = refl
inserted (e ∷ es) p n h = go (same_atom p e.0) (λ k. inserted es p n k) h
  where
    go : (b : Bool) → (lookup (same_atom p) es ≡ None → values_of (insert_entry same_atom es p n) ≡ values_of es ++ value_at p n ∷ []) → cond b (Some e.1) (lookup (same_atom p) es) ≡ None
        → values_of (cond b ((e.0, n) ∷ es) (e ∷ insert_entry same_atom es p n)) ≡ values_of (e ∷ es) ++ value_at p n ∷ []
    go true rest k = cc k
    go false rest k = ap (λ (vs : List FunctionValue). record { function = e.0; value = e.1 } ∷ vs) (rest k)

-- a term that the map has keeps its value
pub kept_there : (entries : List (Atom × ℕ)) (p : Atom) (m n : ℕ) → lookup (same_atom p) entries ≡ Some m → with_value (values_of entries) (Some (value_at p n)) ≡ values_of entries
kept_there entries p m n h = go (value_among (values_of entries) p) (some_among entries p m h)
  where
    go : (v : Option FunctionValue) → option_map (λ (w : FunctionValue). w.value) v ≡ Some m → (if is_some v then values_of entries else values_of entries ++ value_at p n ∷ []) ≡ values_of entries
    go None e = cc e
    go (Some w) e = refl

pub restated_there : (entries : List (Atom × ℕ)) (p : Atom) (m n : ℕ) → lookup (same_atom p) entries ≡ Some m → is_restated (values_of entries) (Some (value_at p n)) ≡ not (m == n)
restated_there entries p m n h = go (value_among (values_of entries) p) (some_among entries p m h)
  where
    go : (v : Option FunctionValue) → option_map (λ (w : FunctionValue). w.value) v ≡ Some m → option_map_or (λ (w : FunctionValue). not (w.value == n)) v false ≡ not (m == n)
    go None e = cc e
    go (Some w) e = let same : w.value ≡ m = cc e in ap (λ (k : ℕ). not (k == n)) same

-- and a new one is added
pub kept_new : (entries : List (Atom × ℕ)) (p : Atom) (n : ℕ) → lookup (same_atom p) entries ≡ None → values_of (insert_entry same_atom entries p n) ≡ with_value (values_of entries) (Some (value_at p n))
kept_new entries p n h = inserted entries p n h
    ∙ sym (ap (λ (v : Option FunctionValue). if is_some v then values_of entries else values_of entries ++ value_at p n ∷ []) (none_among entries p h))

pub restated_new : (entries : List (Atom × ℕ)) (p : Atom) (n : ℕ) → lookup (same_atom p) entries ≡ None → is_restated (values_of entries) (Some (value_at p n)) ≡ false
restated_new entries p n h = ap (λ (v : Option FunctionValue). option_map_or (λ (w : FunctionValue). not (w.value == n)) v false) (none_among entries p h)

pub ruleset kept_values = (kept_there, restated_there, kept_new, restated_new)
