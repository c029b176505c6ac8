-- The sums of an operator's shares over the tables of a column.
use Rattle.std.specs.Prelude.{◌≡◌, ℕ, ◌+◌, ◌-◌, ◌^◌, ◌<◌, Bool, true, false, ◌==◌, ◌&&◌, not, nat_le, nat_lt, if◌then◌else◌, min, List, [], ◌∷◌, length, map, fold, slice_index, slice_set, Option, Some, None}
use Rattle.cost.specs.Distances.{Distance, Finite, Infinite, least}
use Rattle.cert_value.specs.declared.table.Share.{Share}
use Rattle.cert_value.specs.Certificates.{Table}

-- the least number that fails the test, or none
abbrev pub IsFirstFailure : (ℕ → Bool) → Option ℕ → Type 0
IsFirstFailure test None = (n : ℕ) → test n ≡ true
IsFirstFailure test (Some n) = (test n ≡ false) × ((m : ℕ) → m < n → test m ≡ true)

-- for each operator the sum of its shares so far, and the last table that names it, counted from 1
pub record Tally : Type 0 where
  pub sums : List ℕ
  pub tables : List ℕ

-- One more share of a table. Only the first that names the operator counts, and sums are capped at 2^64 - 1.
abbrev pub counted : ℕ → Tally → Share → Tally
counted table t s =
    if nat_lt s.operator (length t.sums) && not (slice_index t.tables s.operator == table)
    then record {
      sums = slice_set t.sums s.operator (min (slice_index t.sums s.operator + s.amount) (2 ^ 64 - 1));
      tables = slice_set t.tables s.operator table;
    }
    else t

-- the tally of several tables, the first of which has the number `n` + 1
abbrev pub tally_of : ℕ → Tally → List Table → Tally
tally_of n t [] = t
tally_of n t (table ∷ tables) = tally_of (n + 1) (fold (counted (n + 1)) t table.shares) tables

-- the operator of the share, if its number is at least `count`
abbrev pub foreign : ℕ → Share → Distance
foreign count s = if nat_le count s.operator then Finite s.operator else Infinite

-- the least operator that the shares list among those numbered `count` or higher
abbrev pub least_foreign : ℕ → List Share → Distance
least_foreign count shares = least (map (foreign count) shares)

-- the least operator that these tables list among those numbered `count` or higher
abbrev pub least_of_column : ℕ → List Table → Distance
least_of_column count column = least (map (λ (t : Table). least_foreign count t.shares) column)
