-- What is spelled of the classes of the values of all variables is read again.
use Rattle.std.proofs.Common.{◌≡◌, ℕ, suc, ◌+◌, ◌^◌, ◌<◌, Bool, true, false, eqb, List, [], ◌∷◌, ◌++◌, length, map, Some, Result, Ok, refl, sym, ap, subst, ◌∙◌, arith, append_assoc}
use Rattle.std.specs.Prelude.{decimal, codes}
use Rattle.std.specs.List.{list_any, AllByRecursion}
use Rattle.std.proofs.lemmas.Bool.Decides.{nat_tests}
use Rattle.std.proofs.lemmas.List.{append-nil, length-map, length-append}
use Rattle.cert_value.specs.declared.certificate.Version.{Version}
use Rattle.cert_value.specs.declared.certificate.Version.TheVariants.{One, Two, Three}
use Rattle.abstraction_domain.specs.Rows.{shares_class}
use Rattle.cert_value.specs.Lawful.{AreClasses, AreClassesOfAll, AreLawfulClasses}
use Rattle.cert_text.specs.declared.fault.CertFault.{CertFault}
use Rattle.cert_text.specs.Pieces.{joined}
use Rattle.cert_text.specs.Spelling.{counted, classes_line, classes_lines}
use Rattle.cert_text.specs.Reading.{◌>>=◌, Remaining, repeated, filled, classes_of, must_share, sharing_of, sharing_at, classes_step, all_classes_at, classes_at}
use Rattle.cert_text.proofs.Decimals.{number_again}
use Rattle.cert_text.proofs.ClassLaws.{must_is, last_is, lines_of_some, some_rows}
use Rattle.cert_text.proofs.Again.{lines_from, line_again, IsWord, words_again, decimal_word, decimal_words, number_in_again, numbers_again, filled_again, count_again, some_items}
use Rattle.cert_text.proofs.AgainItems.{before, IsReadAgain, some_left, pushed}

-- ---- one row

pub classes_words : (row : List ℕ) → AreClasses row → AllByRecursion IsWord (classes_line row)
classes_words row ok = (decimal_word (length row) (omega (arith, ok.few)), decimal_words (2 ^ 32) row (omega arith) ok.each)

classes_again : (line : ℕ) (row : List ℕ) → AreClasses row → classes_of line (classes_line row) ≡ Ok row
unfolding classes_of
classes_again line row ok =
    let f : filled (classes_line row) ≡ Some (length row + 1) = filled_again 0 (classes_line row) (classes_words row ok) ∙ ap Some (omega (arith, length-map row decimal)) in
    let t : eqb (length row + 1) (length row + 1) ≡ true = grind (arith, nat_tests) in
    rw (
      f,
      number_again (length row) (omega (arith, ok.few)),
      t,
      number_in_again 1 (2 ^ 32) (length row) (omega arith) (some_items row ok.some) ok.few,
      numbers_again (2 ^ 32) [] row (omega arith) ok.each,
      ok.numbered,
    ) refl

sharing_again : (must : Bool) (line : ℕ) (row : List ℕ) → AreClasses row → (must ≡ true → shares_class row ≡ true) → sharing_of must line (classes_line row) ≡ Ok row
unfolding sharing_of
sharing_again true line row ok shared = rw (classes_again line row ok, shared refl) refl
sharing_again false line row ok shared = rw (classes_again line row ok) refl

sharing_read : (must : Bool) (row : List ℕ) → AreClasses row → (must ≡ true → shares_class row ≡ true) → IsReadAgain (sharing_at must) row (classes_line row ∷ [])
unfolding sharing_at
sharing_read must row ok shared n tail some =
    (n + 1, rw (line_again n (joined 32 (classes_line row)) tail some, words_again _ _ (classes_words row ok), sharing_again must n row ok shared) refl)

-- ---- all rows

-- the next row is as it must be
next_shares : (count : ℕ) (front : List (List ℕ)) (x : List ℕ) (xs : List (List ℕ)) → length front + suc (length xs) ≡ count → list_any shares_class (front ++ x ∷ xs) ≡ true
    → must_share count front ≡ true → shares_class x ≡ true
next_shares count front x [] total shared must = must_is count front x shared must
next_shares count front x (y ∷ ys) total shared must = absurd (let last = last_is count front must in omega arith)

rows_again : (count : ℕ) (xs front : List (List ℕ)) → length front + length xs ≡ count → list_any shares_class (front ++ xs) ≡ true → AllByRecursion AreClasses xs
    → (n : ℕ) (tail : List (List ℕ)) → 0 < length tail
    → (m : ℕ) × (repeated (classes_step count) (length xs) front (lines_from n (before (map classes_line xs) tail)) ≡ Ok (front ++ xs, lines_from m tail))
unfolding repeated classes_step
rows_again count [] front total shared all n tail some = (n, ap (λ (ys : List (List ℕ)). Ok (ys, lines_from n tail)) (sym (append-nil front)))
rows_again count (x ∷ xs) front total shared all n tail some =
    let rest = before (map classes_line xs) tail in
    let long = length-append front (x ∷ []) in
    let one = sharing_read (must_share count front) x all.0 (next_shares count front x xs total shared) n rest (some_left (map classes_line xs) tail some) in
    let more = rows_again count xs (front ++ x ∷ []) (omega arith) (ap (list_any shares_class) (append_assoc front (x ∷ []) xs) ∙ shared) all.1 one.0 tail some in (
      more.0,
      ap (λ (r : Result (List ℕ × Remaining) CertFault). pushed front r >>= λ y. repeated (classes_step count) (length xs) y.0 y.1) one.1
          ∙ more.1 ∙ ap (λ (ys : List (List ℕ)). Ok (ys, lines_from more.0 tail)) (append_assoc front (x ∷ []) xs),
    )

all_again : (rows : List (List ℕ)) → AreClassesOfAll rows → IsReadAgain all_classes_at rows (counted (codes "classes") (length rows) [] ∷ map classes_line rows)
unfolding all_classes_at
all_again rows ok n tail some =
    let first = some_rows rows ok.shared in
    let long = ap (λ (xs : List (List ℕ)). length xs) first.2 in
    let rest = before (map classes_line rows) tail in
    let c = count_again (codes "classes") 1 (2 ^ 32) n (length rows) rest (omega arith) (omega arith) ok.few (record { plain = refl; filled = omega arith }) (some_left (map classes_line rows) tail some) in
    let m = rows_again (length rows) rows [] (omega arith) ok.shared ok.each (n + 1) tail some in
    (m.0, ap (λ r. r >>= λ count. repeated (classes_step count.0) count.0 [] count.1) c ∙ m.1)

none_again : (rows : List (List ℕ)) → rows ≡ [] → IsReadAgain (λ r. Ok ([], r)) rows (classes_lines rows)
none_again [] none n tail some = (n, refl)
none_again (row ∷ rows) none n tail some = absurd cc

pub all_classes_again : (version : Version) (rows : List (List ℕ)) → AreLawfulClasses version rows → IsReadAgain (classes_at version) rows (classes_lines rows)
unfolding classes_at
all_classes_again One rows ok = none_again rows ok
all_classes_again Two rows ok = none_again rows ok
all_classes_again Three rows ok = subst (IsReadAgain all_classes_at rows) (sym (lines_of_some rows ok.shared)) (all_again rows ok)
