-- Words that are written and read unchanged in the text of a plan.
use Rattle.std.specs.Prelude.{◌≡◌, ◌≢◌, ℕ, ◌==◌, ◌&&◌, nat_lt, Bool, true, false, List, [], length, String}
use Rattle.std.specs.List.{AllByRecursion, list_all}
use Rattle.std.specs.Char.{to_ascii_lowercase}
use Rattle.std.specs.String.{string_bytes}
use Rattle.sexp.specs.declared.byte_kind.ByteKind.{ByteKind}
use Rattle.sexp.specs.declared.byte_kind.ByteKind.TheVariants.{Blank, Semicolon, Open, Close, Letter, Strange}
use Rattle.sexp.specs.Bytes.{kind}
use Rattle.sexp.specs.Forms.{Forms, none, word, group}
use Rattle.validate.specs.Steps.{Step}

-- a byte of a plan word: from 33 to 126, and no parenthesis, semicolon or capital letter
abbrev pub IsPlanByte : ℕ → Type 0
IsPlanByte b = (kind b ≡ Letter) × (to_ascii_lowercase b ≡ b)

pub record IsPlanWord (w : List ℕ) : Type 0 where
  pub some : w ≢ []
  pub bytes : AllByRecursion IsPlanByte w

pub record IsPlanStep (s : Step) : Type 0 where
  pub name : IsPlanWord s.name
  pub arguments : AllByRecursion IsPlanWord s.arguments

-- each word of the expressions, including words in lists, has the property
abbrev pub AreAll : (List ℕ → Type 0) → Forms → Type 0
AreAll P none = Unit {0}
AreAll P (word s e t f) = P t × AreAll P f
AreAll P (group s e i f) = AreAll P i × AreAll P f

-- ---- the corresponding tests

abbrev pub is_letter : ByteKind → Bool
is_letter Blank = false
is_letter Semicolon = false
is_letter Open = false
is_letter Close = false
is_letter Letter = true
is_letter Strange = false

unfoldable pub is_plan_byte : ℕ → Bool
is_plan_byte b = is_letter (kind b) && (to_ascii_lowercase b == b)

abbrev pub is_plan_word : List ℕ → Bool
is_plan_word w = nat_lt 0 (length w) && list_all is_plan_byte w

abbrev pub are_plan_words : {Z : Type 0} → List (String Z) → Bool
are_plan_words words = list_all (λ w. is_plan_word (string_bytes w)) words
