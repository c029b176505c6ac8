-- The intermediate results on the way to the proposed groups.
use Rattle.std.specs.Prelude.{◌≡◌, ℕ, ◌<◌, Bool, false, ◌&&◌, ◌==◌, nat_lt, List, [], ◌∷◌, ◌++◌, length, map, filter, slice_get, slice_index_or}
use Rattle.std.specs.List.{list_all}
use Rattle.std.specs.Option.{option_map_or}
use Rattle.index_rows.specs.Numbers.{has}
use Rattle.mutex_index.specs.Places.{Indexed}
use Rattle.mutex.specs.declared.parts.Part.{Part}
use Rattle.mutex.specs.Proposals.{is_movable}
use Rattle.mutex.specs.Candidates.{Candidate, bound_object}

-- the predicate numbers of the candidate are below that of the part
abbrev pub is_below : Candidate → Part → Bool
is_below candidate part = list_all (λ other. nat_lt other.predicate part.predicate) candidate

-- the candidate with one more of the parts
abbrev pub extensions : List Part → Candidate → List Candidate
extensions parts candidate = map (λ part. candidate ++ part ∷ []) (filter (is_below candidate) parts)

-- the atom at index `place` has this predicate and is neither constant nor excluded
abbrev pub is_row_place : Indexed → ℕ → ℕ → Bool
is_row_place index predicate place =
    is_movable index place && option_map_or (λ p. p.predicate == predicate) (slice_get index.atoms place) false

-- for each predicate of the task the indices of its atoms that are neither constant nor excluded
abbrev pub AreRows : Indexed → List (List ℕ) → Type 0
AreRows index rows = (q k : ℕ) → q < length index.task.arities → has (slice_index_or rows q []) k ≡ is_row_place index q k

-- the part binds the object in the atom at index `place`
abbrev pub binds : Indexed → Part → ℕ → ℕ → Bool
binds index part object place = option_map_or (λ p. bound_object part p == object) (slice_get index.atoms place) false
