-- The bits of a state's values in words of 64 bits.
use Rattle.std.specs.Prelude.{◌≡◌, ℕ, zero, suc, ◌+◌, ◌-◌, ◌*◌, ◌/◌, ◌%◌, ◌^◌, ◌<◌, ◌≤◌, ◌==◌, nat_le, if◌then◌else◌, List, [], ◌∷◌, map, length, slice_index, All}
use Rattle.std.specs.List.{range_with_len}
use Rattle.std.proofs.Common.{sym, ap, subst, ◌∙◌}
use Rattle.fdr.specs.Tasks.{IsState}
use Rattle.packed.specs.declared.field.Field.{Field}

-- the number of binary digits of a number, 0 for 0, counted up to the limit
abbrev pub digits_up_to : ℕ → ℕ → ℕ
digits_up_to zero n = 0
digits_up_to (suc limit) zero = 0
digits_up_to (suc limit) (suc n) = digits_up_to limit (suc n / 2) + 1

-- the number of bits of a variable with `range` values: the binary digits of its greatest value; their number is at
-- most that value
abbrev pub width_of : ℕ → ℕ
width_of range = digits_up_to (range - 1) (range - 1)

-- the next field after word `word` has been filled up to bit `bit`: in the rest of the word if it fits there, otherwise
-- at the beginning of the next word
abbrev pub place : ℕ → ℕ → ℕ → Field
place word bit width =
    if nat_le (bit + width) 64
    then record { word = word; shift = bit; width = width }
    else record { word = word + 1; shift = 0; width = width }

-- the fields of variables with these ranges, laid out in order after word `word` has been filled up to bit `bit`
abbrev pub fields_from : ℕ → ℕ → List ℕ → List Field
fields_from word bit [] = []
fields_from word bit (range ∷ ranges) =
    let field = place word bit (width_of range) in field ∷ fields_from field.word (field.shift + field.width) ranges

-- the field of each variable
abbrev pub fields : List ℕ → List Field
fields ranges = fields_from 0 0 ranges

-- the number of words in use after these variables
abbrev pub words_from : ℕ → ℕ → List ℕ → ℕ
words_from word bit [] = word + 1
words_from word bit (range ∷ ranges) =
    let field = place word bit (width_of range) in words_from field.word (field.shift + field.width) ranges

-- the number of words of the variables, at least one
abbrev pub word_count : List ℕ → ℕ
word_count ranges = words_from 0 0 ranges

-- word number `k`: the sum of the values of its fields, each shifted to its field
abbrev pub word_at : ℕ → List Field → List ℕ → ℕ
word_at k [] values = 0
word_at k (field ∷ fields) [] = 0
word_at k (field ∷ fields) (value ∷ values) =
    (if field.word == k then value * 2 ^ field.shift else 0) + word_at k fields values

-- the first `count` words of a state with these values
abbrev pub words_of : ℕ → List ℕ → List ℕ → List ℕ
words_of count ranges values = map (λ k. word_at k (fields ranges) values) (range_with_len 0 count)

-- the number in the bits of a field
abbrev pub value_in : List ℕ → Field → ℕ
value_in words field = slice_index words field.word / 2 ^ field.shift % 2 ^ field.width

-- the value of each variable
abbrev pub values_in : List ℕ → List ℕ → List ℕ
values_in words ranges = map (value_in words) (fields ranges)

-- there are at most 65536 variables, each with at most 65536 values
pub record AreWithinLimits (ranges : List ℕ) : Type 0 where
  pub variables : length ranges ≤ 65536
  pub values : All (λ range. range ≤ 65536) ranges

-- the fields of these ranges, and the number of words that they take
pub record IsLayout (ranges : List ℕ) (placed : List Field) (count : ℕ) : Type 0 where
  pub limits : AreWithinLimits ranges
  pub fields : placed ≡ fields ranges
  pub word_count : count ≡ word_count ranges

-- the index of the field's word is below `count` and at most 65536, and the field is within that word and has at most
-- 16 bits
pub record IsPlaced (count : ℕ) (field : Field) : Type 0 where
  pub inside : field.word < count
  pub near : field.word ≤ 65536
  pub in_one_word : field.shift + field.width ≤ 64
  pub narrow : field.width ≤ 16

-- the `count` words are those of a state over variables with these ranges
pub record ArePacked (count : ℕ) (ranges words : List ℕ) : Type 0 where
  pub fits : word_count ranges ≤ count
  pub state : IsState ranges (values_in words ranges)
  pub no_other_bits : words ≡ words_of count ranges (values_in words ranges)

-- packed words of equal values are equal
pub same_words : (count : ℕ) (ranges xs ys : List ℕ) → ArePacked count ranges xs → ArePacked count ranges ys
    → values_in xs ranges ≡ values_in ys ranges → xs ≡ ys
same_words count ranges xs ys packed packed' same =
    packed.no_other_bits ∙ ap (words_of count ranges) same ∙ sym packed'.no_other_bits

-- words that equal packed ones are packed
pub packed_alike : (count : ℕ) (ranges xs ys : List ℕ) → xs ≡ ys → ArePacked count ranges ys → ArePacked count ranges xs
packed_alike count ranges xs ys same packed = subst (ArePacked count ranges) (sym same) packed

-- values equal to those of a state are a state
pub state_alike : (ranges xs ys : List ℕ) → xs ≡ ys → IsState ranges ys → IsState ranges xs
state_alike ranges xs ys same state = subst (IsState ranges) (sym same) state

-- equal words have equal values
pub same_values : (ranges xs ys : List ℕ) → xs ≡ ys → values_in xs ranges ≡ values_in ys ranges
same_values ranges xs ys same = ap (λ words. values_in words ranges) same
