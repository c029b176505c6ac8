-- Where the lines of a certificate's text are.
use Rattle.std.specs.Prelude.{◌≡◌, ℕ, ◌+◌, List, ◌∷◌, ◌++◌, length}
use Rattle.cert_value.specs.Certificates.{CertificateValue}
use Rattle.cert_text.specs.Spelling.{lines}

-- the line with this number, counted from 1, of the text of a certificate consists of these words
pub record IsLine (c : CertificateValue) (number : ℕ) (words : List (List ℕ)) : Type 0 where
  pub before : List (List (List ℕ))
  pub after : List (List (List ℕ))
  pub parts : lines c ≡ before ++ words ∷ after
  pub number_is : number ≡ length before + 1
