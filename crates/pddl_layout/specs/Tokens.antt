-- The tokens of a text, without its blanks and comments.
use Rattle.std.specs.Prelude.{ℕ, ◌==◌, if◌then◌else◌, List, [], ◌∷◌, ◌++◌}
use Rattle.std.specs.Char.{to_ascii_lowercase}
use Rattle.sexp.specs.Forms.{Forms, none, word, group}
use Rattle.sexp.specs.declared.byte_kind.ByteKind.{ByteKind}
use Rattle.sexp.specs.declared.byte_kind.ByteKind.TheVariants.{Blank, Semicolon, Open, Close, Letter, Strange}
use Rattle.sexp.specs.Bytes.{kind}

-- A parenthesis, a word in lower case, or a byte that is allowed only in comments.
pub data Token : Type 0 where
  opening : Token
  closing : Token
  letters : List ℕ → Token
  strange : Token

-- the tokens from a byte of this kind on, given the tokens of the bytes that follow it in a gap (`later`), in a
-- comment, and in a word that it begins (`begun`)
abbrev pub from_byte : ByteKind → List Token → List Token → List Token → List Token
from_byte Blank later comment begun = later
from_byte Semicolon later comment begun = comment
from_byte Open later comment begun = opening ∷ later
from_byte Close later comment begun = closing ∷ later
from_byte Letter later comment begun = begun
from_byte Strange later comment begun = strange ∷ later

-- the tokens from a byte of this kind on, in or after a word with this text, given those if the word continues (`more`)
-- and those if it has ended
abbrev pub from_word : ByteKind → List ℕ → List Token → List Token → List Token
from_word Letter text more ended = more
from_word k text more ended = letters text ∷ ended

-- the tokens of bytes that follow a gap or a parenthesis, a semicolon, or a word's letters
abbrev mutual
  pub tokens : List ℕ → List Token
  tokens [] = []
  tokens (b ∷ bs) = from_byte (kind b) (tokens bs) (tokens_in_comment bs) (tokens_in_word (to_ascii_lowercase b ∷ []) bs)

  pub tokens_in_comment : List ℕ → List Token
  tokens_in_comment [] = []
  tokens_in_comment (b ∷ bs) = if b == 10 then tokens bs else tokens_in_comment bs

  pub tokens_in_word : List ℕ → List ℕ → List Token
  tokens_in_word text [] = letters text ∷ []
  tokens_in_word text (b ∷ bs) =
      from_word (kind b) text (tokens_in_word (text ++ to_ascii_lowercase b ∷ []) bs) (from_byte (kind b) (tokens bs) (tokens_in_comment bs) [])

-- the tokens of expressions in their order
abbrev pub tokens_of : Forms → List Token
tokens_of none = []
tokens_of (word s e t f) = letters t ∷ tokens_of f
tokens_of (group s e i f) = opening ∷ (tokens_of i ++ closing ∷ tokens_of f)
