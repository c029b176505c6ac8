-- The promises of the reader, from what it is proved equal to.
use Rattle.std.proofs.Common.{◌≡◌, ℕ, ◌^◌, ◌<◌, ◌≤◌, true, false, List, length, Result, Ok, Err, refl, sym, ap, subst, ◌∙◌, arith, ◌⊎◌, inl, inr}
use Rattle.std.specs.Prelude.{IfOk, nat_lt}
use Rattle.std.proofs.lemmas.Bool.Decides.{nat_tests}
use Rattle.cert_text.specs.declared.fault.CertFault.{CertFault}
use Rattle.cert_text.specs.declared.fault.CertFault.TheVariants as fault
use Rattle.cert_value.specs.Certificates.{CertificateValue}
use Rattle.cert_text.specs.Spelling.{spelling}
use Rattle.cert_value.specs.Lawful.{IsLawful}
use Rattle.cert_text.specs.Pieces.{pieces}
use Rattle.cert_text.specs.Reading.{Gives, certificate_at, certificate_of}
use Rattle.cert_text.proofs.FoundAll.{certificate_found}
use Rattle.cert_text.proofs.AgainAll.{certificate_again}

-- a text that is too long
pub too_long : (bytes : List ℕ) → 2 ^ 30 < length bytes → certificate_of bytes ≡ Err fault.TooLong
unfolding certificate_of
too_long bytes long = let t : nat_lt (2 ^ 30) (length bytes) ≡ true = grind (arith, nat_tests) in rw t refl

-- a text that is not
pub short_enough : (bytes : List ℕ) → length bytes ≤ 2 ^ 30 → certificate_of bytes ≡ certificate_at (record { number = 1; lines = pieces 10 bytes })
unfolding certificate_of
short_enough bytes short = let t : nat_lt (2 ^ 30) (length bytes) ≡ false = grind (arith, nat_tests) in rw t refl

pub found_from : (bytes : List ℕ) (r : Result CertificateValue CertFault) → Gives (λ x. x) r (certificate_of bytes) → IfOk r (λ c. IsLawful c × (bytes ≡ spelling c))
found_from bytes (Ok c) given = certificate_found bytes c given
found_from bytes (Err e) given = tt

pub only_from : (bytes : List ℕ) (r : Result CertificateValue CertFault) → Gives (λ x. x) r (certificate_of bytes)
    → (c : CertificateValue) → IsLawful c → bytes ≡ spelling c → length bytes ≤ 2 ^ 30 → Gives (λ x. x) r (Ok c)
only_from bytes r given c ok is short =
    subst (Gives (λ (x : CertificateValue). x) r) (ap certificate_of is ∙ certificate_again c ok (omega (arith, ap (λ (xs : List ℕ). length xs) is))) given

-- no text spells two certificates, unless it is too long to be read
pub one_certificate : (c d : CertificateValue) → IsLawful c → IsLawful d → spelling c ≡ spelling d → length (spelling c) ≤ 2 ^ 30 → c ≡ d
one_certificate c d ok fine same short =
    let a = certificate_again c ok short in
    let b = certificate_again d fine (omega (arith, ap (λ (xs : List ℕ). length xs) same)) in
    let e : Ok c ≡ Ok d = sym a ∙ ap certificate_of same ∙ b in
    cc

either_by : (bytes : List ℕ) (r : Result CertificateValue CertFault) → certificate_of bytes ≡ r → ((c : CertificateValue) × IsLawful c × (bytes ≡ spelling c)) ⊎ ((e : CertFault) × (certificate_of bytes ≡ Err e))
either_by bytes (Ok c) is = let f = certificate_found bytes c is in inl (c, f.0, f.1)
either_by bytes (Err e) is = inr (e, is)

-- a text spells a certificate or has a first fault
pub spelled_or_not : (bytes : List ℕ) → ((c : CertificateValue) × IsLawful c × (bytes ≡ spelling c)) ⊎ ((e : CertFault) × (certificate_of bytes ≡ Err e))
spelled_or_not bytes = either_by bytes (certificate_of bytes) refl

-- and not both
pub not_both : (c : CertificateValue) (e : CertFault) → IsLawful c → length (spelling c) ≤ 2 ^ 30 → certificate_of (spelling c) ≡ Err e → ⊥
not_both c e ok short fault = let a = certificate_again c ok short in absurd cc
