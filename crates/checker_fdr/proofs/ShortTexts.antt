-- A text that is read as a certificate is short.
use Rattle.std.proofs.Common.{◌≡◌, ◌⊎◌, inl, inr, ℕ, ◌<◌, ◌≤◌, ◌^◌, List, length}
use Rattle.std.specs.Prelude.{Ok}
use Rattle.std.proofs.lemmas.Bool.{cases_lt}
use Rattle.cert_value.specs.Certificates.{CertificateValue}
use Rattle.cert_text.specs.Reading.{certificate_of}
use Rattle.cert_text.proofs.Promises.{too_long}

short_by : (text : List ℕ) (c : CertificateValue) → (2 ^ 30 < length text) ⊎ (length text ≤ 2 ^ 30) → certificate_of text ≡ Ok c → length text ≤ 2 ^ 30
short_by text c (inl long) is = let refused = too_long text long in cc
short_by text c (inr short) is = short

pub read_short : (text : List ℕ) (c : CertificateValue) → certificate_of text ≡ Ok c → length text ≤ 2 ^ 30
read_short text c is = short_by text c (cases_lt (2 ^ 30) (length text)) is
