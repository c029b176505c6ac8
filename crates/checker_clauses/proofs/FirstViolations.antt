-- There is one first violation.
use Rattle.std.proofs.Common.{◌≡◌, ◌⊎◌, ℕ, ◌<◌, ◌==◌, false, List, [], ◌∷◌, refl, sym, subst, ◌∙◌, arith, inl, inr, ltb-false}
use Rattle.std.specs.Prelude.{if◌then◌else◌, slice_index}
use Rattle.std.proofs.lemmas.Bool.{cases_eq, ne_eqb, eq-eqb}
use Rattle.fdr.specs.Tasks.{FiniteDomainTask}
use Rattle.cert_value.specs.Certificates.{CertificateValue}
use Rattle.checker_clauses.specs.declared.violation.Violation.{Violation}
use Rattle.checker_clauses.specs.declared.violation.Violation.TheVariants.{Classes, Shares, TableForm, GoalValue, Fall, ClosedState, Start, ClosedGoal, Successor}
use Rattle.checker_clauses.specs.Clauses.{comes_before}
use Rattle.checker_clauses.specs.Violations.{clause_of, place_of, clause_task, Violates, IsFirstViolation, IsHeld}

-- lists of which neither comes before the other are the same
pub neither_before : (xs ys : List ℕ) → comes_before xs ys ≡ false → comes_before ys xs ≡ false → xs ≡ ys
neither_before [] [] p q = refl
neither_before [] (y ∷ ys) p q = cc p
neither_before (x ∷ xs) [] p q = cc q
neither_before (x ∷ xs) (y ∷ ys) p q = go (neither_before xs ys) (cases_eq x y)
  where
    go : (comes_before xs ys ≡ false → comes_before ys xs ≡ false → xs ≡ ys) → (x ≡ y) ⊎ (x ≡ y → ⊥) → x ∷ xs ≡ y ∷ ys
    go rest (inl e) = rw (e, rest (rw (e, eq-eqb y y refl) at p) (rw (e, eq-eqb y y refl) at q)) refl
    go rest (inr n) =
        let below = ltb-false x y (rw (ne_eqb x y n) at p) in
        let above = ltb-false y x (rw (ne_eqb y x (λ e. n (sym e))) at q) in
        absurd (n (omega (arith, below, above)))

-- the violation of a clause at a place
abbrev violation_at : ℕ → List ℕ → Violation
violation_at k p =
    if k == 0 then Classes (slice_index p 0)
    else if k == 3 then Shares (slice_index p 0) (slice_index p 1)
    else if k == 5 then ClosedState (slice_index p 0)
    else if k == 6 then Start
    else if k == 7 then ClosedGoal (slice_index p 0)
    else if k == 8 then Successor (slice_index p 0) (slice_index p 1)
    else if slice_index p 2 == 0 then TableForm (slice_index p 0) (slice_index p 1)
    else if slice_index p 2 == 1 then GoalValue (slice_index p 0) (slice_index p 1) (slice_index p 3)
    else Fall (slice_index p 0) (slice_index p 1) (slice_index p 3) (slice_index p 4)

at_its_place : (v : Violation) → violation_at (clause_of v) (place_of v) ≡ v
at_its_place (Classes v) = refl
at_its_place (Shares i o) = refl
at_its_place (TableForm i j) = refl
at_its_place (GoalValue i j a) = refl
at_its_place (Fall i j a o) = refl
at_its_place (ClosedState i) = refl
at_its_place Start = refl
at_its_place (ClosedGoal i) = refl
at_its_place (Successor i o) = refl

same_place : (v w : Violation) → clause_of v ≡ clause_of w → place_of v ≡ place_of w → v ≡ w
same_place v w k p = sym (at_its_place v) ∙ (rw (k, p) (at_its_place w))

module _ (task : FiniteDomainTask) (c : CertificateValue) where
  no_lesser_clause : (v w : Violation) → IsFirstViolation task c v → IsFirstViolation task c w → clause_of v < clause_of w → ⊥
  no_lesser_clause v w p q l = q.before (clause_of v) l v refl p.of_clause.there

  same_clause : (v w : Violation) → IsFirstViolation task c v → IsFirstViolation task c w → clause_of v ≡ clause_of w
  same_clause v w p q = go (cases_eq (clause_of v) (clause_of w))
    where
      neither : (m n : ℕ) → (m < n → ⊥) → (n < m → ⊥) → m ≡ n
      neither m n h k = omega (arith, h, k)

      go : (clause_of v ≡ clause_of w) ⊎ (clause_of v ≡ clause_of w → ⊥) → clause_of v ≡ clause_of w
      go (inl e) = e
      go (inr n) = neither (clause_of v) (clause_of w) (no_lesser_clause v w p q) (no_lesser_clause w v q p)

  at_clause : (v : Violation) (k l : ℕ) → k ≡ l → Violates (clause_task task c k) c v → Violates (clause_task task c l) c v
  at_clause v k l e h = subst (λ (n : ℕ). Violates (clause_task task c n) c v) e h

  pub one_first : (v w : Violation) → IsFirstViolation task c v → IsFirstViolation task c w → v ≡ w
  one_first v w p q =
      let k = same_clause v w p q in
      same_place v w k
      (neither_before (place_of v) (place_of w)
      (q.of_clause.first v k (at_clause v (clause_of v) (clause_of w) k p.of_clause.there))
      (p.of_clause.first w (sym k) (at_clause w (clause_of w) (clause_of v) (sym k) q.of_clause.there)))

  pub none_where_held : (v : Violation) → IsFirstViolation task c v → IsHeld task c → ⊥
  none_where_held v p held = held v p.of_clause.there

  -- a violation is the first if no violation comes before it
  pub first_if : (v : Violation) → Violates (clause_task task c (clause_of v)) c v
      → ((w : Violation) → clause_of w ≡ clause_of v → Violates (clause_task task c (clause_of w)) c w → comes_before (place_of w) (place_of v) ≡ false)
      → ((w : Violation) → clause_of w < clause_of v → Violates (clause_task task c (clause_of w)) c w → ⊥) → IsFirstViolation task c v
  first_if v there first before =
      record {
        of_clause = record { there = there; first = λ w e bad. first w e (at_clause w (clause_of v) (clause_of w) (sym e) bad) };
        before = λ k l w e bad. before w (subst (λ (n : ℕ). n < clause_of v) (sym e) l) (at_clause w k (clause_of w) (sym e) bad);
      }
