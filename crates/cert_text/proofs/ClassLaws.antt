-- Rows of classes, two values of which must share a class.
use Rattle.std.proofs.Common.{◌≡◌, ℕ, ◌+◌, Bool, true, false, List, [], ◌∷◌, ◌++◌, length, map, refl, sym, ap, ◌∙◌, arith}
use Rattle.std.specs.Prelude.{◌||◌, ◌&&◌, not, ◌==◌, codes}
use Rattle.std.specs.List.{list_any}
use Rattle.std.proofs.lemmas.Bool.Decides.{nat_tests}
use Rattle.std.proofs.lemmas.List.{length-map}
use Rattle.std.proofs.lemmas.List.Folds.{list_any-append}
use Rattle.abstraction_domain.specs.Rows.{Row, classes_in, shares_class}
use Rattle.cert_text.specs.Spelling.{counted, classes_line, classes_lines}
use Rattle.cert_text.specs.Reading.{must_share}
use Rattle.cert_text.proofs.Steps.{and_parts, eq_is}

or_false : (b : Bool) → (b || false) ≡ b
or_false true = refl
or_false false = refl

-- one more row
pub shares-push : (rows : List (List ℕ)) (row : List ℕ) → list_any shares_class (rows ++ row ∷ []) ≡ (list_any shares_class rows || shares_class row)
shares-push rows row =
    list_any-append shares_class rows (row ∷ []) ∙ ap (λ (b : Bool). list_any shares_class rows || b) (or_false (shares_class row))

-- a test that a flag asks for
pub asked_by : (must test : Bool) → (not must || test) ≡ true → must ≡ true → test ≡ true
asked_by true test e is = e
asked_by false test e is = absurd cc

second_by : (first second : Bool) → not first ≡ true → (first || second) ≡ true → second ≡ true
second_by true second other e = absurd cc
second_by false second other e = e

either_by : (first second : Bool) → (not first ≡ true → second ≡ true) → (first || second) ≡ true
either_by true second h = refl
either_by false second h = h refl

-- if two values of the rows share a class, those of the last row do if they must
pub must_is : (count : ℕ) (rows : List (List ℕ)) (row : List ℕ) → list_any shares_class (rows ++ row ∷ []) ≡ true → must_share count rows ≡ true → shares_class row ≡ true
must_is count rows row shared must =
    second_by (list_any shares_class rows) (shares_class row) (and_parts (not (list_any shares_class rows)) (length rows + 1 == count) must).0 (sym (shares-push rows row) ∙ shared)

-- where values must share a class, one row is left
pub last_is : (count : ℕ) (rows : List (List ℕ)) → must_share count rows ≡ true → length rows + 1 ≡ count
last_is count rows must = eq_is (length rows + 1) count (and_parts (not (list_any shares_class rows)) (length rows + 1 == count) must).1

-- if the last row is as it must be, two values of the rows share a class
pub shared_is : (count : ℕ) (rows : List (List ℕ)) (row : List ℕ) → (must_share count rows ≡ true → shares_class row ≡ true) → length rows + 1 ≡ count
    → list_any shares_class (rows ++ row ∷ []) ≡ true
shared_is count rows row h last =
    let t : (length rows + 1 == count) ≡ true = grind (arith, nat_tests) in
    shares-push rows row ∙ either_by (list_any shares_class rows) (shares_class row) (λ other. h (rw (other, t) refl))

-- rows of which two values share a class are not none
pub lines_of_some : (rows : List (List ℕ)) → list_any shares_class rows ≡ true → classes_lines rows ≡ counted (codes "classes") (length rows) [] ∷ map classes_line rows
lines_of_some [] shared = absurd cc
lines_of_some (row ∷ rows) shared = refl

-- rows that are none, or of which two values share a class
pub some_rows : (rows : List (List ℕ)) → list_any shares_class rows ≡ true → (row : List ℕ) × (more : List (List ℕ)) × (rows ≡ row ∷ more)
some_rows [] shared = absurd cc
some_rows (row ∷ rows) shared = (row, rows, refl)

-- ---- rows as they are in memory

-- whether two values must share a class in the next row, by what is known of the rows before
pub must_by : (count v : ℕ) (rows : List Row) (shared must : Bool) → shared ≡ list_any shares_class (classes_in rows) → length rows ≡ v → must ≡ (not shared && (v + 1 == count))
    → must ≡ must_share count (classes_in rows)
must_by count v rows shared must is many e =
    let long : v ≡ length (classes_in rows) = omega (arith, length-map rows (λ (r : Row). r.classes)) in
    e ∙ ap (λ (b : Bool). not b && (v + 1 == count)) is ∙ ap (λ (n : ℕ). not (list_any shares_class (classes_in rows)) && (n + 1 == count)) long

-- whether two values share a class in one more row
pub shared_by : (rows : List Row) (r : Row) (before shared : Bool) → before ≡ list_any shares_class (classes_in rows) → shared ≡ (before || shares_class r.classes)
    → shared ≡ list_any shares_class (classes_in rows ++ r.classes ∷ [])
shared_by rows r before shared is e =
    e ∙ ap (λ (b : Bool). b || shares_class r.classes) is ∙ sym (shares-push (classes_in rows) r.classes)
