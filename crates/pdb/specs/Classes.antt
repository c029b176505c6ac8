-- Shares of classes of operators.
use Rattle.std.specs.Prelude.{◌≡◌, ℕ, ◌<◌, ◌≤◌, ◌⊎◌, nat_lt, if◌then◌else◌, List, length, slice_index, Some, Contains}
use Rattle.std.specs.Option.{option_map_or}
use Rattle.abstraction_groups.specs.Entrances.{Classes}

-- the number of the operator's class, and 0 without a class
abbrev pub share_by : Classes → List ℕ → ℕ → ℕ
share_by classes numbers o = option_map_or (λ c. slice_index numbers c) (classes.class o) 0

-- each number is the least share of the operators of its class
pub record AreLeast (classes : Classes) (shares least : List ℕ) : Type 0 where
  pub at_most : (o c : ℕ) → o < length shares → classes.class o ≡ Some c → slice_index least c ≤ slice_index shares o
  pub reached : (o c : ℕ) → o < length shares → classes.class o ≡ Some c →
      (p : ℕ) × (classes.class p ≡ Some c) × (slice_index shares p ≡ slice_index least c)

-- the number of the operator's class if that is below n, and 0 otherwise
abbrev pub share_below : Classes → List ℕ → ℕ → ℕ → ℕ
share_below classes numbers n o = option_map_or (λ c. if nat_lt c n then slice_index numbers c else 0) (classes.class o) 0

-- the least share of those of these operators that exist, or `most` if there is none
pub record IsLeastOf (shares operators : List ℕ) (most least : ℕ) : Type 0 where
  pub small : least ≤ most
  pub at_most : (o : ℕ) → Contains operators o → o < length shares → least ≤ slice_index shares o
  pub reached : (least ≡ most) ⊎ ((o : ℕ) × Contains operators o × (slice_index shares o ≡ least))
