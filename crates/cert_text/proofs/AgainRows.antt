-- What is spelled of an abstraction mapping is read again.
use Rattle.std.proofs.Common.{◌≡◌, ℕ, ◌+◌, ◌^◌, ◌<◌, ◌≤◌, true, false, List, [], ◌∷◌, ◌++◌, length, map, Result, Ok, refl, sym, ap, ◌∙◌, arith, append_assoc}
use Rattle.std.specs.Prelude.{nat_le, decimal, codes}
use Rattle.std.specs.List.{AllByRecursion}
use Rattle.std.proofs.lemmas.Bool.Decides.{nat_tests}
use Rattle.std.proofs.lemmas.List.{append-nil, length-map}
use Rattle.abstraction_domain.specs.Rows.{Row}
use Rattle.abstraction_domain.specs.Domains.{variables}
use Rattle.abstraction_mapping.specs.Mappings.{Mapping, Pattern, Domains}
use Rattle.cert_value.specs.declared.certificate.Version.{Version}
use Rattle.cert_value.specs.declared.certificate.Version.TheVariants.{One, Two, Three}
use Rattle.cert_value.specs.Lawful.{IsIncreasing, IsPattern, IsRow, AreRows, IsLawfulMapping}
use Rattle.cert_text.specs.declared.fault.CertFault.{CertFault}
use Rattle.cert_text.specs.Pieces.{joined}
use Rattle.cert_text.specs.Spelling.{counted, pattern_line, row_line, mapping_lines}
use Rattle.cert_text.specs.Reading.{◌>>=◌, Remaining, repeated, next_variable, row_of, row_at, row_step, rows_at, is_domain, mapping_behind, mapping_at}
use Rattle.cert_text.proofs.RowLaws.{next_variable-push}
use Rattle.cert_text.proofs.Again.{lines_from, line_again, IsWord, words_again, decimal_word, decimal_words, number_in_again, numbers_again, second_again, counted_again, some_items, pattern_again}
use Rattle.cert_text.proofs.AgainItems.{before, IsReadAgain, some_left, pushed}

pub pattern_words : (p : List ℕ) → IsPattern p → AllByRecursion IsWord (pattern_line p)
pattern_words p ok =
    (record { plain = refl; filled = omega arith }, (decimal_word (length p) (omega (arith, ok.few)), decimal_words (2 ^ 32) p (omega arith) ok.variables))

-- ---- rows

pub row_words : (r : Row) → IsRow r → AllByRecursion IsWord (row_line r)
row_words r ok =
    (decimal_word r.variable (omega (arith, ok.variable)), (decimal_word (length r.classes) (omega (arith, ok.few)), decimal_words (2 ^ 32) r.classes (omega arith) ok.classes))

row_again : (least line : ℕ) (r : Row) → least ≤ r.variable → IsRow r → row_of least line (row_line r) ≡ Ok r
unfolding row_of
row_again least line r low ok =
    let t : nat_le least r.variable ≡ true = grind (arith, nat_tests) in
    rw (
      counted_again line false (decimal r.variable) (length r.classes) (map decimal r.classes) (omega (arith, ok.few)) (decimal_word r.variable (omega (arith, ok.variable))) (decimal_words (2 ^ 32) r.classes (omega arith) ok.classes) (length-map r.classes decimal),
      number_in_again 0 (2 ^ 32) r.variable (omega arith) (omega arith) ok.variable,
      number_in_again 1 (2 ^ 32) (length r.classes) (omega arith) (some_items r.classes ok.some) ok.few,
      numbers_again (2 ^ 32) [] r.classes (omega arith) ok.classes,
      t,
      ok.numbered,
    ) refl

row_read : (least : ℕ) (r : Row) → least ≤ r.variable → IsRow r → IsReadAgain (row_at least) r (row_line r ∷ [])
unfolding row_at
row_read least r low ok n tail some =
    (n + 1, rw (line_again n (joined 32 (row_line r)) tail some, words_again _ _ (row_words r ok), row_again least n r low ok) refl)

-- the first of the rows may stand behind others
abbrev Follow : List Row → List Row → Type 0
Follow front [] = Unit {0}
Follow front (r ∷ rows) = next_variable front ≤ r.variable

follow_none : (rows : List Row) → Follow [] rows
follow_none [] = tt
follow_none (r ∷ rows) = omega arith

follow_more : (front : List Row) (r : Row) (rows : List Row) → IsIncreasing (variables (r ∷ rows)) → Follow (front ++ r ∷ []) rows
follow_more front r [] up = tt
follow_more front r (s ∷ rows) up = rw (next_variable-push front r) (omega (arith, up.0))

increasing_tail : (r : Row) (rows : List Row) → IsIncreasing (variables (r ∷ rows)) → IsIncreasing (variables rows)
increasing_tail r [] up = tt
increasing_tail r (s ∷ rows) up = up.1

rows_again : (xs front : List Row) → Follow front xs → IsIncreasing (variables xs) → AllByRecursion IsRow xs → (n : ℕ) (tail : List (List ℕ)) → 0 < length tail
    → (m : ℕ) × (repeated row_step (length xs) front (lines_from n (before (map row_line xs) tail)) ≡ Ok (front ++ xs, lines_from m tail))
unfolding repeated row_step
rows_again [] front low up all n tail some = (n, ap (λ (ys : List Row). Ok (ys, lines_from n tail)) (sym (append-nil front)))
rows_again (x ∷ xs) front low up all n tail some =
    let rest = before (map row_line xs) tail in
    let one = row_read (next_variable front) x low all.0 n rest (some_left (map row_line xs) tail some) in
    let more = rows_again xs (front ++ x ∷ []) (follow_more front x xs up) (increasing_tail x xs up) all.1 one.0 tail some in (
      more.0,
      ap (λ (r : Result (Row × Remaining) CertFault). pushed front r >>= λ y. repeated row_step (length xs) y.0 y.1) one.1
          ∙ more.1 ∙ ap (λ (ys : List Row). Ok (ys, lines_from more.0 tail)) (append_assoc front (x ∷ []) xs),
    )

-- ---- mappings

not_domain : (version : Version) (ws : List (List ℕ)) → is_domain version (codes "table" ∷ ws) ≡ false
not_domain One ws = refl
not_domain Two ws = refl
not_domain Three ws = refl

domains_read : (version : Version) (rows : List Row) → is_domain version (counted (codes "domain") (length rows) []) ≡ true → AreRows rows
    → IsReadAgain (mapping_at version) (Domains rows) (mapping_lines (Domains rows))
unfolding mapping_at mapping_behind rows_at
domains_read version rows first ok n tail some =
    let rest = before (map row_line rows) tail in
    let d = decimal_word (length rows) (omega (arith, ok.few)) in
    let m = rows_again rows [] (follow_none rows) ok.increasing ok.each (n + 1) tail some in (
      m.0,
      rw (
        line_again n (joined 32 (counted (codes "domain") (length rows) [])) rest (some_left (map row_line rows) tail some),
        words_again (codes "domain") (decimal (length rows) ∷ []) (record { plain = refl; filled = omega arith }, (d, tt)),
        first,
        second_again n (codes "domain") (decimal (length rows)) d,
        number_in_again 1 (2 ^ 32) (length rows) (omega arith) (some_items rows ok.some) ok.few,
        m.1,
      ) refl,
    )

pub mapping_read : (version : Version) (m : Mapping) → IsLawfulMapping version m → IsReadAgain (mapping_at version) m (mapping_lines m)
unfolding mapping_at mapping_behind
mapping_read version (Pattern p) ok n tail some =
    (n + 1, rw (line_again n (joined 32 (pattern_line p)) tail some, words_again _ _ (pattern_words p ok), not_domain version _, pattern_again n p ok) refl)
mapping_read One (Domains rows) ok n tail some = absurd ok
mapping_read Two (Domains rows) ok n tail some = domains_read Two rows refl ok n tail some
mapping_read Three (Domains rows) ok n tail some = domains_read Three rows refl ok n tail some
