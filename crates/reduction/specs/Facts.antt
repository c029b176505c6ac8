-- Sets of facts.
use Rattle.std.specs.Prelude.{◌≡◌, ℕ, Bool, true, false, not, List, [], map, replicate, slice_index_or, slice_set, count_by, sum_by}
use Rattle.fdr.specs.declared.fact.Fact.{Fact}

-- a set of facts as a test
abbrev pub Facts : Type 0
Facts = Fact → Bool

-- the fact that the variable has this value
abbrev pub fact : ℕ → ℕ → Fact
fact v x = record { variable = v; value = x }

-- the second set has all facts of the first
abbrev pub Includes : Facts → Facts → Type 0
Includes more fewer = (f : Fact) → fewer f ≡ true → more f ≡ true

-- ---- as lists: for each variable whether each of its values is in the set

abbrev pub is_in : List (List Bool) → Fact → Bool
is_in set f = slice_index_or (slice_index_or set f.variable []) f.value false

-- the empty set, for variables with these ranges
abbrev pub no_facts : List ℕ → List (List Bool)
no_facts ranges = map (λ n. replicate n false) ranges

abbrev pub with_fact : List (List Bool) → Fact → List (List Bool)
with_fact set f = slice_set set f.variable (slice_set (slice_index_or set f.variable []) f.value true)

-- the number of facts that are not in the set
abbrev pub absent : List (List Bool) → ℕ
absent set = sum_by (count_by not) set
