-- The order of entries of an open list, and the first entry of a list (best-first search: Hart, Nilsson and Raphael
-- 1968).
use Rattle.std.specs.Prelude.{ℕ, Bool, true, ◌≡◌, ◌&&◌, ◌||◌, ◌==◌, nat_lt, nat_le, List, [], All, Contains, Option, None, Some}
use Rattle.openlist.specs.declared.entry.Rank.{Rank}
use Rattle.openlist.specs.declared.entry.OpenEntry.{OpenEntry}

-- the first rank is below the second: by cost, then by the number of operators
abbrev pub is_lower : Rank → Rank → Bool
is_lower x y = nat_lt x.cost y.cost || ((x.cost == y.cost) && nat_lt x.steps y.steps)

abbrev pub is_same_rank : Rank → Rank → Bool
is_same_rank x y = (x.cost == y.cost) && (x.steps == y.steps)

-- the first entry comes before the second or is equal to it: by f, then by rank, then by index
abbrev pub comes_first : OpenEntry → OpenEntry → Bool
comes_first x y =
    nat_lt x.f y.f
    || ((x.f == y.f) && (is_lower x.rank y.rank || (is_same_rank x.rank y.rank && nat_le x.index y.index)))

-- the entry comes before each of these entries or is equal to it
abbrev pub IsFirst : OpenEntry → List OpenEntry → Type 0
IsFirst x entries = All (λ y. comes_first x y ≡ true) entries

-- the first of these entries, or None if there is none
abbrev pub IsFirstOf : Option OpenEntry → List OpenEntry → Type 0
IsFirstOf None entries = entries ≡ []
IsFirstOf (Some x) entries = Contains entries x × IsFirst x entries

-- the entry with f-value `a`, cost `b`, number of operators `c` and index `d`
abbrev pub entry_of : ℕ → ℕ → ℕ → ℕ → OpenEntry
entry_of a b c d = record { f = a; rank = record { cost = b; steps = c }; index = d }
