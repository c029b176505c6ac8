-- What the laws promise.
use Rattle.std.proofs.Common.{◌⊎◌, inl, inr, ◌≡◌, ◌≢◌, ℕ, ◌≤◌, ◌<◌, ◌^◌, List, [], ◌∷◌, ◌++◌, length, refl, sym, ap, subst, ◌∙◌, arith, Some, None, Result, Ok, Err}
use Rattle.std.proofs.lemmas.List.{length-append}
use Rattle.cert_value.specs.Certificates.{CertificateValue}
use Rattle.cert_text.specs.declared.fault.CertFault.{CertFault}
use Rattle.cert_text.specs.declared.fault.CertFault.TheVariants as fault
use Rattle.cert_text.specs.Spelling.{spelling}
use Rattle.cert_value.specs.Lawful.{IsLawful}
use Rattle.cert_text.specs.Pieces.{pieces}
use Rattle.cert_text.specs.Reading.{certificate_at, certificate_of}
use Rattle.cert_text.proofs.PieceLaws.{some_piece}
use Rattle.cert_text.proofs.FoundAll.{certificate_found}
use Rattle.cert_text.proofs.Promises.{too_long, short_enough, not_both}
use Rattle.line_laws.specs.CertFaultLines.{line_count, line_of, IsWithin}
use Rattle.line_laws.proofs.CertWholeTexts.{lines_from}
use Rattle.line_laws.proofs.CertKept.{within_kept, Told, told_there, named_there, told_within}
use Rattle.line_laws.proofs.CertTexts.{pieces_on, count_front}

err_is : (d e : CertFault) (r : Result CertificateValue CertFault) → r ≡ Err d → r ≡ Err e → d ≡ e
err_is d e r f g = let z : Err d ≡ Err e = sym f ∙ g in cc

short_by : (text : List ℕ) (e : CertFault) → (length text ≤ 2 ^ 30) ⊎ (2 ^ 30 < length text) → certificate_of text ≡ Err e → e ≢ fault.TooLong → length text ≤ 2 ^ 30
short_by text e (inl short) is other = short
short_by text e (inr long) is other = absurd (other (err_is e fault.TooLong (certificate_of text) is (too_long text long)))

-- a text with another fault is not too long
short_with : (text : List ℕ) (e : CertFault) → certificate_of text ≡ Err e → e ≢ fault.TooLong → length text ≤ 2 ^ 30
short_with text e is other = let either : (length text ≤ 2 ^ 30) ⊎ (2 ^ 30 < length text) = grind arith in short_by text e either is other

named_short : (e : CertFault) (m : ℕ) → line_of e ≡ Some m → e ≢ fault.TooLong
named_short e m names is = let z : None ≡ Some m = sym (ap line_of is) ∙ names in absurd cc

within_short : (n : ℕ) (e : CertFault) → IsWithin n e → e ≢ fault.TooLong
within_short n e within is = subst (IsWithin n) is within

told : (text : List ℕ) (e : CertFault) → length text ≤ 2 ^ 30 → certificate_of text ≡ Err e → Told (line_count text) e
told text e short is =
    let some = some_piece 10 text in
    told_there (pieces 10 text) some.0 some.1 e some.2 (sym (short_enough text short) ∙ is)

-- ---- the first lines

pub same_bytes_is : (front s t : List ℕ) (e : CertFault) → IsWithin (line_count (front ++ 10 ∷ [])) e → length (front ++ 10 ∷ t) ≤ 2 ^ 30 → certificate_of (front ++ 10 ∷ s) ≡ Err e → certificate_of (front ++ 10 ∷ t) ≡ Err e
same_bytes_is front s t e within short is =
    let here = some_piece 10 s in
    let there = some_piece 10 t in
    let here_is : pieces 10 (front ++ 10 ∷ s) ≡ pieces 10 front ++ here.0 ∷ here.1 = pieces_on front s ∙ ap (λ (ps : List (List ℕ)). pieces 10 front ++ ps) here.2 in
    let there_is : pieces 10 (front ++ 10 ∷ t) ≡ pieces 10 front ++ there.0 ∷ there.1 = pieces_on front t ∙ ap (λ (ps : List (List ℕ)). pieces 10 front ++ ps) there.2 in
    let fine = short_with (front ++ 10 ∷ s) e is (within_short (line_count (front ++ 10 ∷ [])) e within) in
    short_enough (front ++ 10 ∷ t) short ∙ ap (λ (ls : List (List ℕ)). certificate_at (lines_from 1 ls)) there_is
    ∙ within_kept (line_count (front ++ 10 ∷ [])) e (pieces 10 front) here.0 here.1 there.0 there.1 (sym (count_front front)) within
    (ap (λ (ls : List (List ℕ)). certificate_at (lines_from 1 ls)) (sym here_is) ∙ sym (short_enough (front ++ 10 ∷ s) fine) ∙ is)

pub nothing_spelled_is : (front s t : List ℕ) (e : CertFault) (c : CertificateValue) → IsWithin (line_count (front ++ 10 ∷ [])) e → certificate_of (front ++ 10 ∷ s) ≡ Err e
    → IsLawful c → spelling c ≡ front ++ 10 ∷ t → length (spelling c) ≤ 2 ^ 30 → ⊥
nothing_spelled_is front s t e c within is lawful spelled short =
    not_both c e lawful short (ap certificate_of spelled ∙ same_bytes_is front s t e within (subst (λ (bs : List ℕ). length bs ≤ 2 ^ 30) spelled short) is)

-- ---- whole lines

front_short : (front rest : List ℕ) → length (front ++ 10 ∷ rest) ≤ 2 ^ 30 → length (front ++ 10 ∷ []) ≤ 2 ^ 30
front_short front rest short = omega (arith, length-append front (10 ∷ rest), length-append front (10 ∷ []))

pub whole_lines_is : (front rest : List ℕ) (e : CertFault) → e ≢ fault.Truncated → length (front ++ 10 ∷ rest) ≤ 2 ^ 30 → certificate_of (front ++ 10 ∷ []) ≡ Err e → certificate_of (front ++ 10 ∷ rest) ≡ Err e
whole_lines_is front rest e other short is =
    same_bytes_is front [] rest e (told_within (line_count (front ++ 10 ∷ [])) e (told (front ++ 10 ∷ []) e (front_short front rest short) is) other) short is

pub on_a_line_is : (text : List ℕ) (e : CertFault) (m : ℕ) → certificate_of text ≡ Err e → line_of e ≡ Some m → (1 ≤ m) × (m ≤ line_count text)
on_a_line_is text e m is names =
    let there = named_there (line_count text) e m (told text e (short_with text e is (named_short e m names)) is) names in (there.some, there.most)

before_by : (front rest : List ℕ) (e d : CertFault) (m : ℕ) → certificate_of (front ++ 10 ∷ rest) ≡ Err e → line_of e ≡ Some m → line_count (front ++ 10 ∷ []) < m → certificate_of (front ++ 10 ∷ []) ≡ Err d → d ≢ fault.Truncated → ⊥
before_by front rest e d m is names few alone other =
    let short = short_with (front ++ 10 ∷ rest) e is (named_short e m names) in
    let same : d ≡ e = err_is d e (certificate_of (front ++ 10 ∷ rest)) (whole_lines_is front rest d other short alone) is in
    let there = on_a_line_is (front ++ 10 ∷ []) d m alone (ap line_of same ∙ names) in
    omega (arith, there.1)

truncated_by : (d : CertFault) → (d ≢ fault.Truncated → ⊥) → d ≡ fault.Truncated
truncated_by fault.OutOfMemory h = absurd (h (λ z. cc))
truncated_by fault.Header h = absurd (h (λ z. cc))
truncated_by (fault.Expected n) h = absurd (h (λ z. cc))
truncated_by (fault.Number n) h = absurd (h (λ z. cc))
truncated_by fault.Truncated h = refl
truncated_by (fault.Trailing n) h = absurd (h (λ z. cc))
truncated_by (fault.Order n) h = absurd (h (λ z. cc))
truncated_by (fault.Classes n) h = absurd (h (λ z. cc))
truncated_by fault.TooLong h = absurd (h (λ z. cc))

pub lines_before_is : (front rest : List ℕ) (e d : CertFault) (m : ℕ) → certificate_of (front ++ 10 ∷ rest) ≡ Err e → line_of e ≡ Some m → line_count (front ++ 10 ∷ []) < m → certificate_of (front ++ 10 ∷ []) ≡ Err d → d ≡ fault.Truncated
lines_before_is front rest e d m is names few alone = truncated_by d (before_by front rest e d m is names few alone)

-- ---- one text

pub one_text_is : (s t : List ℕ) (c : CertificateValue) → certificate_of s ≡ Ok c → certificate_of t ≡ Ok c → s ≡ t
one_text_is s t c is other = (certificate_found s c is).1 ∙ sym (certificate_found t c other).1
