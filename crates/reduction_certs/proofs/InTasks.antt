-- The certificate of a task from one of its reduced task over the retained operators.
use Rattle.std.proofs.Common.{◌≡◌, ℕ, ◌<◌, ◌≤◌, Bool, true, false, List, [], ◌∷◌, length, map, get_or, Option, Some, None, refl, sym, ap, subst, ◌∙◌, arith, cond, inl, inr, ⊎_elim}
use Rattle.std.specs.Prelude.{◌⊎◌, All, IsSomeAnd, nat_eq, option_map, option_and_then, slice_get, slice_index_or}
use Rattle.std.specs.Option.{option_map_or, option_eq}
use Rattle.std.proofs.lemmas.Bool.{eq-eqb, false≢true, cases_lt}
use Rattle.std.proofs.lemmas.Option.{slice_get-map, slice_get-get_or}
use Rattle.std.proofs.lemmas.List.{length-map}
use Rattle.fdr.specs.declared.fact.Fact.{Fact}
use Rattle.fdr.specs.Tasks.{FiniteDomainTask, Operator, ranges, IsTask, IsOperator, operator_cost, cost_of}
use Rattle.abstraction.specs.Steps.{found, at_some}
use Rattle.reduction_classes.specs.Classes.{AreClassesFor}
use Rattle.reduction_classes.specs.Reduced.{reduced_facts, reduced_operator, reduced_with, reduced_task, chosen}
use Rattle.reduction_classes.proofs.Runs.{image_is_operator, image_cost}
use Rattle.cert_value.specs.Certificates.{CertificateValue}
use Rattle.checker_clauses.specs.declared.violation.Violation.{Violation}
use Rattle.checker_clauses.specs.declared.violation.Violation.TheVariants.{Classes, Shares, TableForm, GoalValue, Fall, ClosedState, Start, ClosedGoal, Successor}
use Rattle.checker_clauses.specs.Clauses.{fits_row, judged_task}
use Rattle.checker_clauses.specs.Violations.{clause_of, clause_task, Violates, IsHeld}
use Rattle.checker_clauses.proofs.Judging.{IsHeldFor, held_for_judged, of_judged}
use Rattle.reduction.specs.Retained.{AreEqual, AreEqualAt, SameFacts}
use Rattle.reduction.specs.Reductions.{IsReduction, retained_task}
use Rattle.reduction.specs.Represented.{LeavesStates, IsRepresentedBy, AreRepresented}
use Rattle.reduction.proofs.Exact.{chosen_get}
use Rattle.reduction.proofs.GroupLaws.{retained_exist}
use Rattle.reduction_certs.specs.InTask.{certificate_in_task, share_classes, HaveNumberedRows}
use Rattle.reduction_certs.proofs.AllApart.{ranges_same, state_same, facts_same}
use Rattle.reduction_certs.proofs.Standing.{HasEqual, Leaves, AreStanding, held_for_whole}

module _ (task : FiniteDomainTask) (classes : List (List ℕ)) (retained : List ℕ) (representatives : List (Option ℕ)) (well : IsTask task) (is : IsReduction task classes retained)
    (are : AreRepresented task classes retained representatives) where
  abbrev fewer : FiniteDomainTask
  fewer = retained_task task classes retained

  fit : AreClassesFor (ranges task) classes
  fit = is.classes_by.fit

  well_at : (o : ℕ) (op : Operator) → slice_get task.operators o ≡ Some op → IsOperator (ranges task) op
  well_at o op e = at_some (IsOperator (ranges task)) (slice_get task.operators o) op e (found (IsOperator (ranges task)) task.operators o well.operators)

  -- ---- an operator and its representative

  -- the equal retained operator, by its index and its number
  record Equal (o : ℕ) : Type 0 where
    index : ℕ
    number : ℕ
    op : Operator
    equal : Operator
    represented : slice_index_or representatives o None ≡ Some index
    at : slice_get task.operators o ≡ Some op
    stands : slice_get task.operators number ≡ Some equal
    its : slice_get retained index ≡ Some number
    same : AreEqual classes op equal
    cheap : cost_of task number ≤ cost_of task o

  record Alone (o : ℕ) : Type 0 where
    op : Operator
    represented : slice_index_or representatives o None ≡ None
    at : slice_get task.operators o ≡ Some op
    leaves : LeavesStates (ranges (reduced_with classes task [])) (reduced_operator classes op)

  cases : (o : ℕ) → Equal o ⊎ (Alone o ⊎ (length task.operators ≤ o))
  cases o = ⊎_elim below (λ (l : length representatives ≤ o). inr (inr (omega (arith, l, are.as_many)))) (cases_lt o (length representatives))
    where
      alone : slice_index_or representatives o None ≡ None → (r : Option Operator) → slice_get task.operators o ≡ r → IsSomeAnd r (λ op. LeavesStates (ranges (reduced_with classes task [])) (reduced_operator classes op)) → Alone o
      alone e None q h = absurd h
      alone e (Some op) q h = record { op = op; represented = e; at = q; leaves = h }

      by_operators : (k p : ℕ) → slice_index_or representatives o None ≡ Some k → slice_get retained k ≡ Some p → cost_of task p ≤ cost_of task o → (r : Option Operator) → slice_get task.operators o ≡ r → (t : Option Operator) → slice_get task.operators p ≡ t →
          IsSomeAnd r (λ a. IsSomeAnd t (λ b. AreEqual classes a b)) → Equal o
      by_operators k p e i c None q t u h = absurd h
      by_operators k p e i c (Some a) q None u h = absurd h
      by_operators k p e i c (Some a) q (Some b) u h = record { index = k; number = p; op = a; equal = b; represented = e; at = q; stands = u; its = i; same = h; cheap = c }

      by_retained : (k : ℕ) → slice_index_or representatives o None ≡ Some k → (r : Option ℕ) → slice_get retained k ≡ r → IsSomeAnd r (λ p. AreEqualAt task classes o p × (cost_of task p ≤ cost_of task o)) → Equal o
      by_retained k e None q h = absurd h
      by_retained k e (Some p) q h = by_operators k p e q h.1 (slice_get task.operators o) refl (slice_get task.operators p) refl h.0

      go : (r : Option ℕ) → slice_index_or representatives o None ≡ r → IsRepresentedBy task classes retained o r → Equal o ⊎ (Alone o ⊎ (length task.operators ≤ o))
      go None e h = inr (inl (alone e (slice_get task.operators o) refl h))
      go (Some k) e h = inl (by_retained k e (slice_get retained k) refl h)

      below : o < length representatives → Equal o ⊎ (Alone o ⊎ (length task.operators ≤ o))
      below l =
          go (slice_index_or representatives o None) refl
          (at_some (IsRepresentedBy task classes retained o) (slice_get representatives o) (slice_index_or representatives o None) (slice_get-get_or representatives o None l) (are.each o))

  -- the image of a retained operator in the reduced task
  image_at : (k p : ℕ) (b : Operator) → slice_get retained k ≡ Some p → slice_get task.operators p ≡ Some b → slice_get fewer.operators k ≡ Some (reduced_operator classes b)
  image_at k p b i e =
      slice_get-map (reduced_operator classes) (chosen task.operators retained) k
      ∙ ap (option_map (reduced_operator classes)) (chosen_get task.operators retained (retained_exist task is.asked classes retained is.are_retained) k)
      ∙ ap (λ (r : Option ℕ). option_map (reduced_operator classes) (option_and_then (slice_get task.operators) r)) i
      ∙ ap (option_map (reduced_operator classes)) e

  cheap_at : (k p : ℕ) (b : Operator) → slice_get retained k ≡ Some p → slice_get task.operators p ≡ Some b → cost_of fewer k ≡ cost_of task p
  cheap_at k p b i e =
      ap (λ (r : Option Operator). option_map_or (operator_cost task.metric) r 0) (image_at k p b i e)
      ∙ sym (ap (λ (r : Option Operator). option_map_or (operator_cost task.metric) r 0) e)

  -- ---- the reduced task over all operators

  reduced_standing : AreStanding (reduced_task classes task) fewer representatives
  reduced_standing =
      record {
        same_ranges = refl;
        initial = refl;
        goal = refl;
        as_many = are.as_many ∙ sym (length-map task.operators (reduced_operator classes));
        each = λ o. ⊎_elim (λ (h : Equal o). inl (equal o h)) (λ (r : Alone o ⊎ (length task.operators ≤ o)). ⊎_elim (λ (h : Alone o). inr (inl (alone o h))) (λ (l : length task.operators ≤ o). inr (inr (omega (arith, l, length-map task.operators (reduced_operator classes))))) r) (cases o);
      }
    where
      read : (o : ℕ) (op : Operator) → slice_get task.operators o ≡ Some op → slice_get (map (reduced_operator classes) task.operators) o ≡ Some (reduced_operator classes op)
      read o op e = slice_get-map (reduced_operator classes) task.operators o ∙ ap (option_map (reduced_operator classes)) e

      equal : (o : ℕ) (h : Equal o) → HasEqual (reduced_task classes task) fewer representatives o
      equal o h =
          record {
            index = h.index;
            op = reduced_operator classes h.op;
            equal = reduced_operator classes h.equal;
            represented = h.represented;
            at = read o h.op h.at;
            stands = image_at h.index h.number h.equal h.its h.stands;
            well = image_is_operator task classes fit task.operators h.op (well_at o h.op h.at);
            well_equal = image_is_operator task classes fit task.operators h.equal (well_at h.number h.equal h.stands);
            conditions = h.same.precondition;
            effects = h.same.effect;
            cheap = omega (arith, h.cheap, cheap_at h.index h.number h.equal h.its h.stands, image_cost task classes fit well o);
          }

      alone : (o : ℕ) (h : Alone o) → Leaves (reduced_task classes task) representatives o
      alone o h = record { op = reduced_operator classes h.op; represented = h.represented; at = read o h.op h.at; well = image_is_operator task classes fit task.operators h.op (well_at o h.op h.at); leaves = h.leaves }

  -- ---- the task itself, if no two values share a class

  module _ (apart : share_classes classes ≡ false) where
    itself : (fs : List Fact) → All (λ f. (f.variable < length (ranges task)) × (f.value < get_or (ranges task) f.variable 0)) fs → fs ≡ reduced_facts classes fs
    itself fs all = facts_same task classes fit is.classes_by.numbered apart fs all

    standing : AreStanding task fewer representatives
    standing =
        record {
          same_ranges = ranges_same task classes fit is.classes_by.numbered apart (chosen task.operators retained);
          initial = state_same task classes fit is.classes_by.numbered apart task.initial well.initial;
          goal = itself task.goal well.goal.in_range;
          as_many = are.as_many;
          each = λ o. ⊎_elim (λ (h : Equal o). inl (equal o h)) (λ (r : Alone o ⊎ (length task.operators ≤ o)). ⊎_elim (λ (h : Alone o). inr (inl (alone o h))) (λ (l : length task.operators ≤ o). inr (inr l)) r) (cases o);
        }
      where
        ranges_are : (ops : List Operator) → ranges task ≡ ranges (reduced_with classes task ops)
        ranges_are ops = ranges_same task classes fit is.classes_by.numbered apart ops

        equal : (o : ℕ) (h : Equal o) → HasEqual task fewer representatives o
        equal o h =
            let ok = well_at o h.op h.at in
            record {
              index = h.index;
              op = h.op;
              equal = reduced_operator classes h.equal;
              represented = h.represented;
              at = h.at;
              stands = image_at h.index h.number h.equal h.its h.stands;
              well = ok;
              well_equal = subst (λ (rs : List ℕ). IsOperator rs (reduced_operator classes h.equal)) (sym (ranges_are task.operators)) (image_is_operator task classes fit task.operators h.equal (well_at h.number h.equal h.stands));
              conditions = subst (λ (fs : List Fact). SameFacts fs (reduced_facts classes h.equal.precondition)) (sym (itself h.op.precondition ok.precondition.in_range)) h.same.precondition;
              effects = subst (λ (fs : List Fact). SameFacts fs (reduced_facts classes h.equal.effect)) (sym (itself h.op.effect ok.effect.in_range)) h.same.effect;
              cheap = omega (arith, h.cheap, cheap_at h.index h.number h.equal h.its h.stands);
            }

        alone : (o : ℕ) (h : Alone o) → Leaves task representatives o
        alone o h =
            let ok = well_at o h.op h.at in
            record {
              op = h.op;
              represented = h.represented;
              at = h.at;
              well = ok;
              leaves = leaves h.op (itself h.op.precondition ok.precondition.in_range) (itself h.op.effect ok.effect.in_range) (subst (λ (rs : List ℕ). LeavesStates rs (reduced_operator classes h.op)) (sym (ranges_are [])) h.leaves);
            }
          where
            leaves : (op : Operator) → op.precondition ≡ reduced_facts classes op.precondition → op.effect ≡ reduced_facts classes op.effect → LeavesStates (ranges task) (reduced_operator classes op) → LeavesStates (ranges task) op
            leaves op p e h =
                subst (λ (fs : List Fact). LeavesStates (ranges task) (record op { precondition = fs })) (sym p)
                (subst (λ (fs : List Fact). LeavesStates (ranges task) (record op { precondition = reduced_facts classes op.precondition; effect = fs })) (sym e) h)

  -- ---- the certificate has no violation

  module _ (c : CertificateValue) (none : c.classes ≡ []) (numbered : HaveNumberedRows c.columns) (held : IsHeld fewer c) where
    abbrev made : CertificateValue
    made = certificate_in_task classes representatives c

    held_for_fewer : IsHeldFor fewer c
    held_for_fewer v l bad = held_for_judged fewer c held v l (subst (λ (t : FiniteDomainTask). Violates t c v) (sym (ap (judged_task fewer) none)) bad)

    -- each row fits
    fits : (v : ℕ) → fits_row task classes v ≡ true
    fits v =
        ap (λ (r : Option ℕ). option_eq nat_eq r (slice_get (ranges task) v)) (sym (slice_get-map length classes v) ∙ ap (λ (rs : List ℕ). slice_get rs v) fit)
        ∙ same (slice_get (ranges task) v)
      where
        same : (r : Option ℕ) → option_eq nat_eq r r ≡ true
        same None = refl
        same (Some n) = eq-eqb n n refl

    judged : (b : Bool) → share_classes classes ≡ b → IsHeldFor (judged_task task (cond b classes [])) made
    judged false e = held_for_whole task fewer representatives (standing e) classes c held_for_fewer numbered
    judged true e = subst (λ (t : FiniteDomainTask). IsHeldFor t made) (some classes e) (held_for_whole (reduced_task classes task) fewer representatives reduced_standing classes c held_for_fewer numbered)
      where
        some : (rows : List (List ℕ)) → share_classes rows ≡ true → reduced_task rows task ≡ judged_task task rows
        some [] h = absurd (false≢true h)
        some (row ∷ rows) h = refl

    rows_fit : (b : Bool) (v : ℕ) → 0 < length (cond b classes []) → fits_row task (cond b classes []) v ≡ false → ⊥
    rows_fit true v l e = false≢true (sym e ∙ fits v)
    rows_fit false v l e = omega (arith, l)

    later : (v : Violation) → 0 < clause_of v → Violates (clause_task task made (clause_of v)) made v → ⊥
    later v l bad = judged (share_classes classes) refl v l (subst (λ (t : FiniteDomainTask). Violates t made v) (of_judged task made (clause_of v) l) bad)

    pub held_in_task : IsHeld task made
    held_in_task (Classes v) bad = rows_fit (share_classes classes) v bad.0 bad.1
    held_in_task (Shares i o) bad = later (Shares i o) (omega arith) bad
    held_in_task (TableForm i j) bad = later (TableForm i j) (omega arith) bad
    held_in_task (GoalValue i j a) bad = later (GoalValue i j a) (omega arith) bad
    held_in_task (Fall i j a o) bad = later (Fall i j a o) (omega arith) bad
    held_in_task (ClosedState i) bad = later (ClosedState i) (omega arith) bad
    held_in_task Start bad = later Start (omega arith) bad
    held_in_task (ClosedGoal i) bad = later (ClosedGoal i) (omega arith) bad
    held_in_task (Successor i o) bad = later (Successor i o) (omega arith) bad
