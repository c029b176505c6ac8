-- From the clauses one after another to the first violation.
use Rattle.std.proofs.Common.{◌≡◌, ◌⊎◌, ℕ, zero, suc, ◌+◌, ◌<◌, ◌≤◌, List, [], ◌∷◌, length, refl, sym, ap, subst, ◌∙◌, Option, Some, None, arith, inl, inr, ⊎_elim}
use Rattle.std.specs.Prelude.{Result, Ok, Err, IfOk}
use Rattle.std.proofs.lemmas.Bool.{cases_eq}
use Rattle.cost.specs.Distances.{Distance, Infinite}
use Rattle.fdr.specs.Tasks.{FiniteDomainTask, IsTask, EveryPlanCostsAtLeast}
use Rattle.cert_value.specs.Certificates.{CertificateValue}
use Rattle.checker_clauses.specs.declared.violation.Violation.{Violation}
use Rattle.checker_clauses.specs.declared.violation.Violation.TheVariants.{Classes, Shares, TableForm, GoalValue, Fall, ClosedState, Start, ClosedGoal, Successor}
use Rattle.checker_clauses.specs.Clauses.{judged_task}
use Rattle.checker_clauses.specs.Violations.{clause_of, clause_task, Violates, IsMet, IsFirstOfClause, IsFoundIn, IsFirstViolation, IsHeld}
use Rattle.checker_clauses.proofs.Judging.{IsHeldFor, of_judged}
use Rattle.checker_clauses.proofs.Bounds.{held_implies_bound}
use Rattle.checker_fdr.specs.declared.verdict.Verdict.{Verdict}
use Rattle.checker_fdr.specs.declared.verdict.Verdict.TheVariants.{Accepted, Rejected}
use Rattle.checker_fdr.specs.Verdicts.{AreMetBelow, IsFoundBelow, IsFirstOrNone}

abbrev bound_of : Verdict → Distance
bound_of (Accepted d) = d
bound_of (Rejected v) = Infinite

accepted : (d e : Distance) → Accepted d ≡ Accepted e → d ≡ e
accepted d e h = ap bound_of h

clause_range : (v : Violation) → ((clause_of v ≡ 0) ⊎ (3 ≤ clause_of v)) × (clause_of v < 9)
clause_range (Classes v) = (inl refl, omega arith)
clause_range (Shares i o) = (inr (omega arith), omega arith)
clause_range (TableForm i j) = (inr (omega arith), omega arith)
clause_range (GoalValue i j a) = (inr (omega arith), omega arith)
clause_range (Fall i j a o) = (inr (omega arith), omega arith)
clause_range (ClosedState i) = (inr (omega arith), omega arith)
clause_range Start = (inr (omega arith), omega arith)
clause_range (ClosedGoal i) = (inr (omega arith), omega arith)
clause_range (Successor i o) = (inr (omega arith), omega arith)

module _ (task : FiniteDomainTask) (c : CertificateValue) where
  pub nothing_before : AreMetBelow task c 3
  nothing_before j p l v e h =
      ⊎_elim (λ (z : clause_of v ≡ 0). omega (arith, p, e, z)) (λ (q : 3 ≤ clause_of v). omega (arith, l, e, q)) (clause_range v).0

  pub met_more : (k : ℕ) → AreMetBelow task c k → IsMet task c k → AreMetBelow task c (k + 1)
  met_more k below met j p l = go (cases_eq j k)
    where
      go : (j ≡ k) ⊎ (j ≡ k → ⊥) → IsMet task c j
      go (inl e) = rw e met
      go (inr n) = below j p (omega (arith, n))

  -- one clause more
  pub found_more : (k : ℕ) (r : Option Violation) → 0 < k → AreMetBelow task c k → IsFoundIn task c k r → IsFoundBelow task c (k + 1) r
  found_more k None some below found = met_more k below found
  found_more k (Some v) some below found = (omega (arith, some, found.0), found.1, λ j p l. below j p (rw found.0 at l))

  -- a clause whose test finds nothing is met
  pub none_met : (k : ℕ) (r : Option Violation) → IsFoundIn task c k r → ((v : Violation) → r ≡ Some v → ⊥) → IsMet task c k
  none_met k None found none = found
  none_met k (Some v) found none = absurd (none v refl)

  -- the same of a test that memory may refuse
  pub found_more_if : {E : Type 0} (k : ℕ) (r : Result (Option Violation) E) → 0 < k → AreMetBelow task c k → IfOk r (IsFoundIn task c k) → IfOk r (IsFoundBelow task c (k + 1))
  found_more_if k (Ok r) some below found = found_more k r some below found
  found_more_if k (Err e) some below found = tt

  -- all clauses
  pub all_met : AreMetBelow task c 9 → IsHeldFor task c
  all_met below v p h = below (clause_of v) p (clause_range v).1 v refl h

module _ (task : FiniteDomainTask) (c : CertificateValue) where
  abbrev judged : FiniteDomainTask
  judged = judged_task task c.classes

  -- C0 and the clauses for the judged task are all clauses
  held_by : IsMet task c 0 → IsHeldFor judged c → IsHeld task c
  held_by fit held v bad =
      ⊎_elim
      (λ (z : clause_of v ≡ 0). fit v z (subst (λ (k : ℕ). Violates (clause_task task c k) c v) z bad))
      (λ (n : clause_of v ≡ 0 → ⊥).
      let p : 0 < clause_of v = omega (arith, n) in
      held v p (subst (λ (t : FiniteDomainTask). Violates t c v) (of_judged task c (clause_of v) p) bad))
      (cases_eq (clause_of v) 0)

  -- after C0 the first violation is the first for the judged task
  first_by : (v : Violation) → IsMet task c 0 → IsFoundBelow judged c 9 (Some v) → IsFirstViolation task c v
  first_by v fit found =
      record {
        of_clause = subst (λ (t : FiniteDomainTask). IsFirstOfClause t c v) (sym (of_judged task c (clause_of v) found.0)) found.1;
        before = before;
      }
    where
      before : (k : ℕ) → k < clause_of v → IsMet (clause_task task c k) c k
      before zero l = fit
      before (suc k) l = found.2 (suc k) (omega arith) l

  first_or_none : (r : Option Violation) → IsMet task c 0 → IsFoundBelow judged c 9 r → IsFirstOrNone task c r
  first_or_none None fit found = held_by fit (all_met judged c found)
  first_or_none (Some v) fit found = first_by v fit found

  pub first_if_judged : {E : Type 0} (t : FiniteDomainTask) (r : Result (Option Violation) E) → t ≡ judged_task task c.classes → IsMet task c 0
      → IfOk r (IsFoundBelow t c 9) → IfOk r (IsFirstOrNone task c)
  first_if_judged t (Ok r) is fit found = first_or_none r fit (subst (λ (u : FiniteDomainTask). IsFoundBelow u c 9 r) is found)
  first_if_judged t (Err e) is fit found = tt

  -- a violation of C0 is the first
  pub first_of_classes : (v : Violation) → IsFoundIn task c 0 (Some v) → IsFirstViolation task c v
  first_of_classes v found =
      record {
        of_clause = subst (λ (k : ℕ). IsFirstOfClause (clause_task task c k) c v) (sym found.0) found.1;
        before = λ k l. absurd (omega (arith, l, found.0));
      }

-- without classes the task itself is judged
pub judged_itself : (task : FiniteDomainTask) (classes : List (List ℕ)) → length classes ≡ 0 → task ≡ judged_task task classes
judged_itself task [] none = refl
judged_itself task (row ∷ rows) none = absurd (omega (arith, none))

module _ (task : FiniteDomainTask) (c : CertificateValue) (well : IsTask task) where
  -- an accepted bound is the certificate's, and holds
  pub held_bound : (d bound : Distance) → d ≡ c.bound → Accepted d ≡ Accepted bound → IsHeld task c → EveryPlanCostsAtLeast task bound
  held_bound d bound e f held = subst (EveryPlanCostsAtLeast task) (sym e ∙ accepted d bound f) (held_implies_bound task well c held)
