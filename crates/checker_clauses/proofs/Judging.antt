-- The task that a certificate with classes is judged for.
use Rattle.std.proofs.Common.{◌≡◌, ℕ, zero, suc, ◌<◌, true, List, [], ◌∷◌, length, map, refl, sym, subst, arith}
use Rattle.std.specs.Prelude.{slice_get, nat_eq, option_map}
use Rattle.std.specs.Option.{option_eq}
use Rattle.std.proofs.lemmas.Bool.{eqb-true}
use Rattle.cost.specs.Distances.{Distance}
use Rattle.fdr.specs.Tasks.{FiniteDomainTask, ranges, IsTask, EveryPlanCostsAtLeast}
use Rattle.reduction_classes.specs.Classes.{AreClassesFor}
use Rattle.reduction_classes.proofs.Runs.{image_bound, reduced_is_task}
use Rattle.cert_value.specs.Certificates.{CertificateValue}
use Rattle.checker_clauses.specs.declared.violation.Violation.{Violation}
use Rattle.checker_clauses.specs.Clauses.{fits_row, judged_task}
use Rattle.checker_clauses.specs.Violations.{clause_of, clause_task, Violates, IsHeld}

-- rows of which each fits its variable are classes for the task
rows_fit : (rows : List (List ℕ)) (counts : List ℕ) → ((v : ℕ) → option_eq nat_eq (option_map length (slice_get rows v)) (slice_get counts v) ≡ true) → AreClassesFor counts rows
rows_fit [] [] h = refl
rows_fit [] (n ∷ counts) h = let e = h 0 in cc e
rows_fit (row ∷ rows) [] h = let e = h 0 in cc e
rows_fit (row ∷ rows) (n ∷ counts) h = rw (eqb-true (length row) n (h 0), rows_fit rows counts (λ v. h (suc v))) refl

pub classes_fit : (task : FiniteDomainTask) (classes : List (List ℕ)) → ((v : ℕ) → fits_row task classes v ≡ true) → AreClassesFor (ranges task) classes
classes_fit task classes h = rows_fit classes (ranges task) h

-- the clauses but C0 are satisfied, for the task that they are about
abbrev pub IsHeldFor : FiniteDomainTask → CertificateValue → Type 0
IsHeldFor task c = (v : Violation) → 0 < clause_of v → Violates task c v → ⊥

module _ (task : FiniteDomainTask) (c : CertificateValue) where
  -- each clause but C0 is about the judged task
  pub of_judged : (k : ℕ) → 0 < k → clause_task task c k ≡ judged_task task c.classes
  of_judged zero l = absurd (omega (arith, l))
  of_judged (suc k) l = refl

  pub held_for_judged : IsHeld task c → IsHeldFor (judged_task task c.classes) c
  held_for_judged held v l bad = held v (subst (λ (t : FiniteDomainTask). Violates t c v) (sym (of_judged (clause_of v) l)) bad)

-- the judged task is a task, and a bound for it is one for the task itself
pub judged_bound : (task : FiniteDomainTask) → IsTask task → (classes : List (List ℕ)) → (0 < length classes → (v : ℕ) → fits_row task classes v ≡ true) → (bound : Distance)
    → (IsTask (judged_task task classes) → EveryPlanCostsAtLeast (judged_task task classes) bound) → EveryPlanCostsAtLeast task bound
judged_bound task well [] fit bound h = h well
judged_bound task well (row ∷ rows) fit bound h =
    let are = classes_fit task (row ∷ rows) (fit (omega arith)) in
    image_bound task (row ∷ rows) are well bound (h (reduced_is_task task (row ∷ rows) are task.operators well well.operators))
