-- The rows of a certificate against the variables of a task, one after another.
use Rattle.std.proofs.Common.{◌≡◌, ℕ, ◌<◌, ◌≤◌, Bool, true, false, eqb, List, [], ◌∷◌, length, Option, Some, None, refl, sym, ap, ◌∙◌, arith, true≢false, ⊎_elim}
use Rattle.std.specs.Prelude.{slice_get, slice_index, option_map}
use Rattle.std.proofs.lemmas.Bool.{cases_lt}
use Rattle.std.proofs.lemmas.Option.{slice_get-get_or, slice_get_past, slice_get-map}
use Rattle.std.proofs.lemmas.List.{length-map}
use Rattle.fdr.specs.Tasks.{FiniteDomainTask, ranges}
use Rattle.abstraction_domain.specs.Rows.{Row, classes_in}
use Rattle.cert_value.specs.Certificates.{CertificateValue}
use Rattle.reduction_classes.specs.Classes.{AreClassesFor}
use Rattle.reduction_classes.specs.Reduced.{reduced_task}
use Rattle.checker_clauses.specs.declared.violation.Violation.{Violation}
use Rattle.checker_clauses.specs.declared.violation.Violation.TheVariants.{Classes, Shares, TableForm, GoalValue, Fall, ClosedState, Start, ClosedGoal, Successor}
use Rattle.checker_clauses.specs.Clauses.{fits_row, comes_before, judged_task}
use Rattle.checker_clauses.specs.Violations.{clause_of, place_of, Violates, IsMet, IsFoundIn}
use Rattle.checker_clauses.proofs.ClauseLaws.{not_false}
use Rattle.checker_clauses.proofs.Judging.{classes_fit}
use Rattle.checker_tables.proofs.PlaceLaws.{no_earlier}
use Rattle.checker_states.specs.Places.{PassesBelow}

module _ (task : FiniteDomainTask) (rows : List Row) (v : ℕ) where
  row_at : (r : Option Row) → slice_get rows v ≡ r → option_map length (slice_get (classes_in rows) v) ≡ option_map (λ (x : Row). length x.classes) r
  row_at None e = ap (option_map length) (slice_get-map (λ (x : Row). x.classes) rows v ∙ ap (option_map (λ (x : Row). x.classes)) e)
  row_at (Some row) e = ap (option_map length) (slice_get-map (λ (x : Row). x.classes) rows v ∙ ap (option_map (λ (x : Row). x.classes)) e)

  range_at : v < length task.value_names → slice_get (ranges task) v ≡ Some (slice_index (ranges task) v)
  range_at l = slice_get-get_or (ranges task) v 0 (omega (arith, l, length-map task.value_names length))

  no_range : length task.value_names ≤ v → slice_get (ranges task) v ≡ None
  no_range l = slice_get_past (ranges task) v (omega (arith, l, length-map task.value_names length))

  pub row_of_variable : (row : Row) → slice_get rows v ≡ Some row → v < length task.value_names → fits_row task (classes_in rows) v ≡ eqb (length row.classes) (slice_index (ranges task) v)
  row_of_variable row e l = rw (row_at (Some row) e, range_at l) refl

  pub row_too_many : (row : Row) → slice_get rows v ≡ Some row → length task.value_names ≤ v → fits_row task (classes_in rows) v ≡ false
  row_too_many row e l = rw (row_at (Some row) e, no_range l) refl

  pub row_missing : slice_get rows v ≡ None → v < length task.value_names → fits_row task (classes_in rows) v ≡ false
  row_missing e l = rw (row_at None e, range_at l) refl

  pub neither : slice_get rows v ≡ None → length task.value_names ≤ v → fits_row task (classes_in rows) v ≡ true
  neither e l = rw (row_at None e, no_range l) refl

module _ (task : FiniteDomainTask) (c : CertificateValue) where
  -- after the last row and the last variable there is neither
  fits_past : (v : ℕ) → length c.classes ≤ v → length task.value_names ≤ v → fits_row task c.classes v ≡ true
  fits_past v l m = rw (slice_get_past c.classes v l, slice_get_past (ranges task) v (omega (arith, m, length-map task.value_names length))) refl

  -- a certificate without rows has no violation of C0
  pub no_rows : length c.classes ≡ 0 → IsMet task c 0
  no_rows none (Classes v) k bad = omega (arith, none, bad.0)
  no_rows none (Shares i o) k bad = absurd (omega (arith, k))
  no_rows none (TableForm i j) k bad = absurd (omega (arith, k))
  no_rows none (GoalValue i j a) k bad = absurd (omega (arith, k))
  no_rows none (Fall i j a o) k bad = absurd (omega (arith, k))
  no_rows none (ClosedState i) k bad = absurd (omega (arith, k))
  no_rows none Start k bad = absurd (omega (arith, k))
  no_rows none (ClosedGoal i) k bad = absurd (omega (arith, k))
  no_rows none (Successor i o) k bad = absurd (omega (arith, k))

  pub each_fits : (n : ℕ) → length c.classes ≤ n → length task.value_names ≤ n → PassesBelow (fits_row task c.classes) n → IsMet task c 0
  each_fits n l m below (Classes v) k bad =
      ⊎_elim (λ (q : v < n). true≢false (sym (below v q) ∙ bad.1))
      (λ (q : n ≤ v). true≢false (sym (fits_past v (omega (arith, l, q)) (omega (arith, m, q))) ∙ bad.1))
      (cases_lt v n)
  each_fits n l m below (Shares i o) k bad = absurd (omega (arith, k))
  each_fits n l m below (TableForm i j) k bad = absurd (omega (arith, k))
  each_fits n l m below (GoalValue i j a) k bad = absurd (omega (arith, k))
  each_fits n l m below (Fall i j a o) k bad = absurd (omega (arith, k))
  each_fits n l m below (ClosedState i) k bad = absurd (omega (arith, k))
  each_fits n l m below Start k bad = absurd (omega (arith, k))
  each_fits n l m below (ClosedGoal i) k bad = absurd (omega (arith, k))
  each_fits n l m below (Successor i o) k bad = absurd (omega (arith, k))

  pub first_misfit : (v : ℕ) → 0 < length c.classes → fits_row task c.classes v ≡ false → PassesBelow (fits_row task c.classes) v → IsFoundIn task c 0 (Some (Classes v))
  first_misfit v some bad below = (refl, record { there = (some, bad); first = earlier })
    where
      earlier : (w : Violation) → clause_of w ≡ 0 → Violates task c w → comes_before (place_of w) (v ∷ []) ≡ false
      earlier (Classes u) k fails = no_earlier u v [] [] (λ l. true≢false (sym (below u l) ∙ fails.1)) (λ _. refl)
      earlier (Shares i o) k fails = absurd (omega (arith, k))
      earlier (TableForm i j) k fails = absurd (omega (arith, k))
      earlier (GoalValue i j a) k fails = absurd (omega (arith, k))
      earlier (Fall i j a o) k fails = absurd (omega (arith, k))
      earlier (ClosedState i) k fails = absurd (omega (arith, k))
      earlier Start k fails = absurd (omega (arith, k))
      earlier (ClosedGoal i) k fails = absurd (omega (arith, k))
      earlier (Successor i o) k fails = absurd (omega (arith, k))

  -- after C0 the classes are those for the task
  pub met_classes : 0 < length c.classes → IsMet task c 0 → AreClassesFor (ranges task) c.classes
  met_classes some met = classes_fit task c.classes (λ v. not_false (fits_row task c.classes v) (λ f. met (Classes v) refl (some, f)))

-- with classes the reduced task is judged
pub judged_reduced : (task : FiniteDomainTask) (classes : List (List ℕ)) → 0 < length classes → reduced_task classes task ≡ judged_task task classes
judged_reduced task [] some = absurd (omega (arith, some))
judged_reduced task (row ∷ rows) some = refl
