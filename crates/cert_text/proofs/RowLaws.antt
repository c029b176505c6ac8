-- Rows of classes, one after another.
use Rattle.std.proofs.Common.{◌≡◌, ℕ, zero, suc, ◌+◌, ◌≤◌, true, false, List, [], ◌∷◌, ◌++◌, length, refl, sym, ap, ◌∙◌, arith}
use Rattle.std.specs.List.{range_with_len}
use Rattle.std.proofs.lemmas.List.{map-append, length-append}
use Rattle.std.proofs.lemmas.Bool.{false_from_ne_true}
use Rattle.abstraction_domain.specs.Rows.{Row, AreNumbered, are_numbered, IsFirstMisnumbered}
use Rattle.abstraction_domain.specs.Domains.{variables}
use Rattle.abstraction_domain.proofs.Numbering.{numbered_by_test}
use Rattle.cert_value.specs.Lawful.{IsIncreasing}
use Rattle.cert_text.specs.Reading.{next_variable}

pub numbered_test : (classes : List ℕ) → AreNumbered classes → are_numbered classes ≡ true
numbered_test classes h = (numbered_by_test classes).1 h

pub misnumbered_test : (classes : List ℕ) (k : ℕ) → IsFirstMisnumbered classes k → are_numbered classes ≡ false
misnumbered_test classes k h =
    false_from_ne_true (are_numbered classes) (λ e. h.misnumbered ((numbered_by_test classes).0 e k h.within))

-- the least variable behind one more row
pub next_variable-push : (rows : List Row) (r : Row) → next_variable (rows ++ r ∷ []) ≡ r.variable + 1
next_variable-push [] r = refl
next_variable-push (s ∷ []) r = refl
next_variable-push (s ∷ t ∷ rows) r = next_variable-push (t ∷ rows) r

-- one more row, of a variable that is not less
pub increasing_push : (rows : List Row) (r : Row) → IsIncreasing (variables rows) → next_variable rows ≤ r.variable → IsIncreasing (variables (rows ++ r ∷ []))
increasing_push [] r up low = tt
increasing_push (s ∷ []) r up low = (omega (arith, low), tt)
increasing_push (s ∷ t ∷ rows) r up low = (up.0, increasing_push (t ∷ rows) r up.1 low)

range_push : (a n : ℕ) → range_with_len a (suc n) ≡ range_with_len a n ++ (a + n) ∷ []
range_push a zero = let same : a ≡ a + 0 = omega arith in ap (λ (k : ℕ). k ∷ []) same
range_push a (suc n) =
    let same : a + 1 + n ≡ a + suc n = omega arith in
    ap (λ (ns : List ℕ). a ∷ ns) (range_push (a + 1) n ∙ ap (λ (k : ℕ). range_with_len (a + 1) n ++ k ∷ []) same)

-- one more row, of the next variable
pub in_order_push : (rows : List Row) (r : Row) → variables rows ≡ range_with_len 0 (length rows) → r.variable ≡ length rows
    → variables (rows ++ r ∷ []) ≡ range_with_len 0 (length (rows ++ r ∷ []))
in_order_push rows r order is =
    let next : r.variable ≡ 0 + length rows = omega (arith, is) in
    let count : suc (length rows) ≡ length (rows ++ r ∷ []) = let l = length-append rows (r ∷ []) in omega arith in
    map-append (λ (x : Row). x.variable) rows (r ∷ []) ∙ ap (λ (vs : List ℕ). vs ++ r.variable ∷ []) order
    ∙ ap (λ (v : ℕ). range_with_len 0 (length rows) ++ v ∷ []) next ∙ sym (range_push 0 (length rows)) ∙ ap (range_with_len 0) count
