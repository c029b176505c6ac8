-- A number at the start of a text, and one at the start of a list of words.
use Rattle.std.specs.Prelude.{◌≡◌, ◌≢◌, ℕ, ◌<◌, ◌≤◌, List, ◌∷◌, length, take, slice_index, Some}
use Rattle.cert_text.specs.Reading.{number_in}

-- the first `count` bytes are no blanks and spell the number `n`, which is below `end`
pub record BeginsWithNumber (end n count : ℕ) (bytes : List ℕ) : Type 0 where
  pub within : count ≤ length bytes
  pub one_word : (k : ℕ) → k < count → slice_index bytes k ≢ 32
  pub number : number_in 0 end (take count bytes) ≡ Some n

-- the first of the words spells the number `n`, which is below `end`, and the others follow
pub record IsFirstNumber (end n : ℕ) (words behind : List (List ℕ)) : Type 0 where
  pub word : List ℕ
  pub words_are : words ≡ word ∷ behind
  pub number : number_in 0 end word ≡ Some n
