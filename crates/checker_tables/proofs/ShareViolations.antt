-- The first operator that a column spends too much of, in the first such column.
use Rattle.std.proofs.Common.{◌≡◌, ℕ, ◌<◌, true, false, List, [], ◌∷◌, Option, Some, None, refl, sym, ap, ◌∙◌, arith, subst, length, ⊎_elim}
use Rattle.std.specs.Prelude.{IsSomeAnd, IfSome, slice_get}
use Rattle.std.proofs.lemmas.Bool.{both_ways, cases_lt}
use Rattle.std.proofs.lemmas.Option.{slice_get_past}
use Rattle.fdr.specs.Tasks.{FiniteDomainTask}
use Rattle.cert_value.specs.Certificates.{Table, CertificateValue}
use Rattle.checker_clauses.specs.declared.violation.Violation.{Violation}
use Rattle.checker_clauses.specs.declared.violation.Violation.TheVariants.{Classes, Shares, TableForm, GoalValue, Fall, ClosedState, Start, ClosedGoal, Successor}
use Rattle.checker_clauses.specs.Clauses.{is_within_cost, comes_before}
use Rattle.checker_clauses.specs.Violations.{Violates, IsMet, IsFirstOfClause, clause_of, place_of}
use Rattle.checker_tables.specs.ShareSums.{IsFirstFailure}
use Rattle.checker_tables.proofs.PlaceLaws.{no_earlier}

module _ (task : FiniteDomainTask) (c : CertificateValue) where
  -- each operator of the column of that number is within its cost
  abbrev pub IsWithinAt : ℕ → Type 0
  IsWithinAt k = IfSome (slice_get c.columns k) (λ column. (o : ℕ) → is_within_cost task column o ≡ true)

  refuted : (o : ℕ) (r : Option (List Table)) → IfSome r (λ column. (n : ℕ) → is_within_cost task column n ≡ true)
      → IsSomeAnd r (λ column. is_within_cost task column o ≡ false) → ⊥
  refuted o None within fails = fails
  refuted o (Some column) within fails = both_ways (is_within_cost task column o) fails (within o)

  pub within_met : ((k : ℕ) → k < length c.columns → IsWithinAt k) → IsMet task c 3
  within_met within (Shares i o) k fails = refuted o (slice_get c.columns i) (at i) fails
    where
      at : (j : ℕ) → IsWithinAt j
      at j = ⊎_elim (λ l. within j l) (λ past. rw (slice_get_past c.columns j past) tt) (cases_lt j (length c.columns))
  within_met within (Classes v) k fails = absurd (omega arith)
  within_met within (TableForm i j) k fails = absurd (omega arith)
  within_met within (GoalValue i j a) k fails = absurd (omega arith)
  within_met within (Fall i j a o) k fails = absurd (omega arith)
  within_met within (ClosedState i) k fails = absurd (omega arith)
  within_met within Start k fails = absurd (omega arith)
  within_met within (ClosedGoal i) k fails = absurd (omega arith)
  within_met within (Successor i o) k fails = absurd (omega arith)

  pub first_shares : (i o : ℕ) (column : List Table) → ((k : ℕ) → k < i → IsWithinAt k) → slice_get c.columns i ≡ Some column
      → IsFirstFailure (is_within_cost task column) (Some o) → IsFirstOfClause task c (Shares i o)
  first_shares i o column before is found =
      record {
        there = subst (λ (r : Option (List Table)). IsSomeAnd r (λ ts. is_within_cost task ts o ≡ false)) (sym is) found.0;
        first = first;
      }
    where
      first : (w : Violation) → clause_of w ≡ 3 → Violates task c w → comes_before (place_of w) (place_of (Shares i o)) ≡ false
      first (Shares j p) k fails =
          no_earlier j i (p ∷ []) (o ∷ []) (λ l. refuted p (slice_get c.columns j) (before j l) fails)
          (λ q. no_earlier p o [] []
          (λ l. both_ways (is_within_cost task column p)
          (subst (λ (r : Option (List Table)). IsSomeAnd r (λ ts. is_within_cost task ts p ≡ false)) (ap (λ (n : ℕ). slice_get c.columns n) q ∙ is) fails) (found.1 p l))
          (λ _. refl))
      first (Classes v) e fails = absurd (omega arith)
      first (TableForm j k) e fails = absurd (omega arith)
      first (GoalValue j k a) e fails = absurd (omega arith)
      first (Fall j k a p) e fails = absurd (omega arith)
      first (ClosedState j) e fails = absurd (omega arith)
      first Start e fails = absurd (omega arith)
      first (ClosedGoal j) e fails = absurd (omega arith)
      first (Successor j p) e fails = absurd (omega arith)
