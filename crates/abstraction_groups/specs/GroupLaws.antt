-- The groups of operators are classes of operators with the same transitions.
use Rattle.std.proofs.Common.{◌≡◌, ℕ, ◌<◌, List, map, Option, Some, None, refl, sym, ap, ◌∙◌, subst, arith}
use Rattle.std.specs.Prelude.{◌↔◌, IfSome, slice_get, option_map, option_and_then}
use Rattle.std.proofs.lemmas.Option.{slice_get-map, slice_get_within}
use Rattle.std.proofs.lemmas.List.{length-map}
use Rattle.fdr.specs.Tasks.{FiniteDomainTask, Operator, IsOperator}
use Rattle.abstraction.specs.Abstractions.{Abstraction}
use Rattle.abstraction.specs.Projections.{transition_of}
use Rattle.abstraction.specs.Steps.{found}
use Rattle.abstraction.proofs.DigitLaws.{rising_from}
use Rattle.abstraction_groups.specs.declared.change.Change.{Change}
use Rattle.abstraction_groups.specs.Changes.{LeadsBy, at_digits, row_of}
use Rattle.abstraction_groups.specs.ChangeLaws.{transition_told, still}
use Rattle.abstraction_groups.specs.RowLaws.{found_at, all_there}
use Rattle.abstraction_groups.specs.Factors.{Factors, IsFactored, class_operator, digits_of, changes_of, group_changes, group_of, groups_of}
use Rattle.abstraction_groups.specs.Entrances.{LeadsTo, AreClasses}

module _ (task : FiniteDomainTask) (a : Abstraction) (f : Factors) (is : IsFactored task a f) where
  -- an operator reaches one abstract state from another if its changes do, and only then
  op_told : (op : Operator) (i j : ℕ) → IsOperator f.counts (class_operator f op) → i < a.size → j < a.size →
      (transition_of f.counts f.variables i (class_operator f op) ≡ Some j) ↔ LeadsBy (at_digits (digits_of f) (changes_of f op)) i j
  op_told op i j well l k =
      let size = is.size in transition_told f.counts (class_operator f op) well f.variables i j (rising_from f.variables is.increasing) (omega arith) (omega arith)

  pub operator_well : (o : ℕ) (op : Operator) → slice_get task.operators o ≡ Some op → IsOperator f.counts (class_operator f op)
  operator_well o op at = subst (λ (r : Option Operator). IfSome r (λ op. IsOperator f.counts (class_operator f op))) at (found (λ op. IsOperator f.counts (class_operator f op)) task.operators o is.operators)

  pub steps_told : (o : ℕ) (op : Operator) (i j : ℕ) → slice_get task.operators o ≡ Some op → j < a.size →
      LeadsTo a o i j ↔ ((i < a.size) × LeadsBy (at_digits (digits_of f) (changes_of f op)) i j)
  steps_told o op i j at k = (
    λ h. (h.0, (op_told op i j (operator_well o op at) h.0 k).0 (sym (step i) ∙ h.1)),
    λ h. (h.0, step i ∙ (op_told op i j (operator_well o op at) h.0 k).1 h.1),
  )
    where
      step : (i : ℕ) → a.transition i o ≡ transition_of f.counts f.variables i (class_operator f op)
      step i = is.transition i o ∙ ap (option_and_then (λ op. transition_of f.counts f.variables i (class_operator f op))) at

  -- the operator of a group, and its changes
  pub member_told : (o c : ℕ) → group_of task f o ≡ Some c → (op : Operator) × (slice_get task.operators o ≡ Some op) × (slice_get (group_changes task f) c ≡ Some (changes_of f op))
  member_told o c e = go (slice_get task.operators o) refl e
    where
      go : (r : Option Operator) → slice_get task.operators o ≡ r → option_and_then (λ op. row_of (group_changes task f) (changes_of f op)) r ≡ Some c →
          (op : Operator) × (slice_get task.operators o ≡ Some op) × (slice_get (group_changes task f) c ≡ Some (changes_of f op))
      go None at h = absurd (cc)
      go (Some op) at h = (op, at, found_at (group_changes task f) (changes_of f op) c h)

  -- an operator without a group moves nothing
  lone_still : (o i j : ℕ) → group_of task f o ≡ None → j < a.size → LeadsTo a o i j → i ≡ j
  lone_still o i j e k h = go (slice_get task.operators o) refl e
    where
      go : (r : Option Operator) → slice_get task.operators o ≡ r → option_and_then (λ op. row_of (group_changes task f) (changes_of f op)) r ≡ None → i ≡ j
      go None at n =
          let none : a.transition i o ≡ None = is.transition i o ∙ ap (option_and_then (λ op. transition_of f.counts f.variables i (class_operator f op))) at in
          let some = h.1 in absurd (cc)
      go (Some op) at n =
          let row : slice_get (map (changes_of f) task.operators) o ≡ Some (changes_of f op) = slice_get-map (changes_of f) task.operators o ∙ ap (λ (r : Option Operator). option_map (changes_of f) r) at in
          let nothing = all_there (map (changes_of f) task.operators) (changes_of f op) o row n in
          let leads = ((steps_told o op i j at k).0 h).1 in
          let size = is.size in
          let low = h.0 in
          still f.counts f.variables (changes_of f op) i j (length-map f.variables _) nothing (omega arith) (omega arith) leads

  pub factored_grouped : AreClasses a (groups_of task f)
  factored_grouped =
      record {
        below = λ o c e. let told = member_told o c e in slice_get_within (group_changes task f) c (changes_of f told.0) told.2;
        alike = λ o p c i j e q k h.
            let one = member_told o c e in
            let two = member_told p c q in
            let same : changes_of f one.0 ≡ changes_of f two.0 = let x = one.2 in let y = two.2 in cc in
            let leads = (steps_told o one.0 i j one.1 k).0 h in
            (steps_told p two.0 i j two.1 k).1 (leads.0, subst (λ (cs : List Change). LeadsBy (at_digits (digits_of f) cs) i j) same leads.1);
        others = λ o i j e k h. lone_still o i j e k h;
      }
