-- The changes of a class of operators as arithmetic on the number of an abstract state.
use Rattle.std.specs.Prelude.{◌≡◌, ℕ, ◌+◌, ◌*◌, ◌/◌, ◌%◌, ◌<◌, if◌then◌else◌, List, [], ◌∷◌}
use Rattle.abstraction.specs.declared.digit.Digit.{Digit}
use Rattle.abstraction_groups.specs.declared.change.DigitChange.{DigitChange}
use Rattle.abstraction_groups.specs.Changes.{is_assigned}
use Rattle.pdb_regression.specs.Changes.{put_at, taken_at}
use Rattle.pdb_regression.specs.Words.{mask_by, want_by}
use Rattle.abstraction_groups.specs.Pairs.{IsRow}

-- the values at the digits, the lowest first
abbrev pub unpacked : ℕ → List Digit → List ℕ
unpacked n [] = []
unpacked n (d ∷ ds) = n % d.range ∷ unpacked (n / d.range) ds

-- what the effects add to the number, and what they subtract from it, in units of the first digit
abbrev pub put_by : List DigitChange → ℕ
put_by [] = 0
put_by (c ∷ cs) = put_at c.change + c.digit.range * put_by cs

abbrev pub taken_by : List DigitChange → ℕ
taken_by [] = 0
taken_by (c ∷ cs) = taken_at c.change + c.digit.range * taken_by cs

-- the digits that may have any value before
abbrev pub free_in : List DigitChange → List Digit
free_in [] = []
free_in (c ∷ cs) = if is_assigned c.change then c.digit ∷ free_in cs else free_in cs

-- the second number is the first with a multiple of the weight of each digit added, below the digit's range
abbrev pub IsWith : List Digit → ℕ → ℕ → Type 0
IsWith [] n m = n ≡ m
IsWith (d ∷ ds) n m = (x : ℕ) × (x < d.range) × IsWith ds (n + x * d.weight) m

-- the parts of a rule are those of the changes
pub record IsRule (changes : List DigitChange) (mask want put taken : ℕ) (free : List Digit) : Type 0 where
  pub row : IsRow changes
  pub mask_is : mask ≡ mask_by changes
  pub want_is : want ≡ want_by changes
  pub put_is : put ≡ put_by changes
  pub taken_is : taken ≡ taken_by changes
  pub free_are : free ≡ free_in changes
