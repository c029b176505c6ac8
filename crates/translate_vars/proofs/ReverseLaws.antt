-- The variables of a translation are in order, and no atom is uncovered.
use Rattle.std.proofs.Common.{◌≡◌, suc, ◌≤◌, Bool, true, false, ◌&&◌, ◌||◌, not, cond, List, [], ◌∷◌, length, take, refl, sym, ◌∙◌, ⊎_elim, eqb, arith}
use Rattle.std.specs.Prelude.{count_by}
use Rattle.std.specs.List.{list_all, list_any}
use Rattle.std.proofs.lemmas.Bool.{lt-leb, le-leb, and_parts, not-true, true≢false, or_cases, false_from_ne_true, eqb-true, cond_both}
use Rattle.pddl_task.specs.Atoms.{Atom, contains}
use Rattle.pddl_task.specs.Planning.{PlanningTask, Action}
use Rattle.pddl_task.proofs.Lists.{Mem, all_mem, mem_get, all_at, none_at, any_at, any_from}
use Rattle.pddl_task.proofs.AtomLaws.{contains_mem, mem_contains}
use Rattle.mutex_index.specs.Groups.{is_constant, is_full}
use Rattle.translate_theory.specs.Translations.{Variable, IsVariableOver, IsVariableOf, AreVariables}
use Rattle.translate_vars.specs.Faults.{are_several, is_in_order, AreInOrder, is_uncovered}
use Rattle.translate_vars.proofs.OrderLaws.{are_in}
use Rattle.translate_vars.proofs.CountLaws.{none_counted, any_counted, counted_at}

module _ (task : PlanningTask) (actions : List Action) where
  order_over : (earlier : List Variable) (v : Variable) (atoms : List Atom) → v.atoms ≡ atoms → IsVariableOver task actions v atoms
      → list_any (λ p. is_constant task actions p || are_in earlier p) v.atoms ≡ false → is_in_order task actions earlier v ≡ true
  order_over earlier v [] e over h = absurd over
  order_over earlier v (p ∷ []) e over h =
      let single : are_several v.atoms ≡ false = rw e (lt-leb 2 1 (omega arith)) in
      rw (h, single, over) refl
  order_over earlier v (p ∷ q ∷ rest) e over h =
      let several : are_several v.atoms ≡ true = rw e (le-leb 2 (suc (suc (length rest))) (omega arith)) in
      rw (h, several, over.positive, over.one_goal, over.usable) (full v.has_none (is_full task actions v.atoms) over.kind)
    where
      full : (a b : Bool) → (a || b) ≡ true → not (not a && not b) ≡ true
      full true b h = refl
      full false true h = refl
      full false false h = absurd (true≢false (sym h))

  module _ (atoms : List Atom) (variables : List Variable) (are : AreVariables task atoms actions variables) where
    counted : (p : Atom) → Mem p atoms → count_by (λ v. contains v.atoms p) variables ≡ cond (is_constant task actions p) 0 1
    counted p m = eqb-true (count_by (λ v. contains v.atoms p) variables) (cond (is_constant task actions p) 0 1)
        (all_at (λ p. eqb (count_by (λ v. contains v.atoms p) variables) (cond (is_constant task actions p) 0 1)) atoms p are.covered m)

    pub order_from : AreInOrder task actions variables (length variables)
    order_from k v l e =
        let m = mem_get variables k v e in
        order_over (take k variables) v v.atoms refl (all_mem (IsVariableOf task actions) variables v are.each m)
        (false_from_ne_true (list_any (λ p. is_constant task actions p || are_in (take k variables) p) v.atoms) (λ t.
        let w = any_at (λ p. is_constant task actions p || are_in (take k variables) p) v.atoms t in
        let here : contains v.atoms w.0 ≡ true = mem_contains v.atoms w.0 w.1 in
        let listed = contains_mem atoms w.0 (all_at (contains atoms) v.atoms w.0 (all_mem (λ v. list_all (contains atoms) v.atoms ≡ true) variables v are.listed m) w.1) in
        let n = counted w.0 listed in
        let some = any_counted (λ v. contains v.atoms w.0) variables (any_from (λ v. contains v.atoms w.0) variables v m here) in
        ⊎_elim
        (λ (s : is_constant task actions w.0 ≡ true).
        let none : count_by (λ v. contains v.atoms w.0) variables ≡ 0 = n ∙ rw s refl in omega (arith, some, none))
        (λ (s : are_in (take k variables) w.0 ≡ true).
        let before = any_counted (λ v. contains v.atoms w.0) (take k variables) s in
        let more = counted_at (λ v. contains v.atoms w.0) variables k v e here in
        let few : cond (is_constant task actions w.0) 0 1 ≤ 1 = cond_both (is_constant task actions w.0) 0 1 (λ x. x ≤ 1) (λ _. omega arith) (λ _. omega arith) in
        omega (arith, before, more, n, few))
        (or_cases (is_constant task actions w.0) (are_in (take k variables) w.0) w.2)))

    pub none_uncovered : list_any (is_uncovered task actions variables) atoms ≡ false
    none_uncovered = false_from_ne_true (list_any (is_uncovered task actions variables) atoms) (λ t.
        let w = any_at (is_uncovered task actions variables) atoms t in
        let parts = and_parts (not (is_constant task actions w.0)) (not (are_in variables w.0)) w.2 in
        let n = counted w.0 w.1 in
        let one : count_by (λ v. contains v.atoms w.0) variables ≡ 1 = n ∙ rw (not-true (is_constant task actions w.0) parts.0) refl in
        let none : count_by (λ v. contains v.atoms w.0) variables ≡ 0 = none_counted (λ v. contains v.atoms w.0) variables (λ v m.
        none_at (λ v. contains v.atoms w.0) variables v (not-true (are_in variables w.0) parts.1) m) in
        omega (arith, one, none))
