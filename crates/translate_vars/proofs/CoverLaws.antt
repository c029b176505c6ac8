-- Variables that are in order are those of a translation, where no atom is uncovered.
use Rattle.std.proofs.Common.{◌≡◌, ◌≢◌, ℕ, zero, suc, ◌+◌, ◌<◌, ◌≤◌, Bool, true, false, ◌&&◌, ◌||◌, not, cond, List, [], ◌∷◌, length, get_or, take, Option, Some, None, refl, sym, ap, ◌∙◌, inl, inr, eqb, subst, arith}
use Rattle.std.specs.Prelude.{slice_get, count_by, All, AllPairs}
use Rattle.std.specs.Option.{option_map}
use Rattle.std.specs.List.{list_all, list_any}
use Rattle.std.specs.List.Sorted.{IsStrictlyIncreasing}
use Rattle.std.proofs.lemmas.Bool.{lt-leb, le-leb, and_parts, and_from, not-true, not-false, not_from_false, true≢false, both_ways, or_parts, false_from_ne_true, eq-eqb}
use Rattle.std.proofs.lemmas.List.{length-map}
use Rattle.std.proofs.lemmas.List.Folds.{list_any_more}
use Rattle.std.proofs.lemmas.List.Kept.{AllPairs-from_increasing}
use Rattle.std.proofs.lemmas.Option.{slice_get_within, get_or_from_slice_get, slice_get-map}
use Rattle.pddl_task.specs.Atoms.{Atom, contains, at_most_one, wants}
use Rattle.pddl_task.specs.Planning.{PlanningTask, Action}
use Rattle.pddl_task.proofs.Lists.{Mem, all_mem, mem_get, get_of_mem, all_from, none_at}
use Rattle.pddl_task.proofs.AtomLaws.{contains_mem, mem_contains}
use Rattle.ground_atoms.specs.Order.{AreDistinct}
use Rattle.mutex_index.specs.Groups.{is_constant, is_excluded, is_usable, is_full}
use Rattle.index_rows.specs.Numbers.{has}
use Rattle.mutex_index.specs.Places.{atoms_at}
use Rattle.mutex_index.proofs.IndexLaws.{get_of_within, one_place}
use Rattle.translate_theory.specs.Translations.{Variable, IsVariableOver, IsVariableOf, AreVariables}
use Rattle.translate_theory.specs.Variables.{PlacedVariable, IsPlaced, variable_at, variables_at}
use Rattle.translate_vars.specs.Faults.{are_several, is_misplaced, is_no_group, is_not_full, is_in_order, AreInOrder, is_uncovered, IsFirstUncovered}
use Rattle.translate_vars.specs.Flags.{flag_at, Tell}
use Rattle.translate_vars.proofs.FlagLaws.{at_mem, contains_at, length_at}
use Rattle.translate_vars.proofs.OrderLaws.{are_in}
use Rattle.translate_vars.proofs.CountLaws.{all_by_mem, taken_whole, none_taken, none_counted, counted_first}

-- ---- one more variable

pub one_more_told : (atoms : List Atom) → AreDistinct atoms → (variables : List PlacedVariable) (number : ℕ) (v : PlacedVariable) (old new : List Bool)
    → slice_get variables number ≡ Some v → length old ≡ length atoms
    → Tell atoms (are_in (take number (variables_at atoms variables))) old
    → ((k : ℕ) → k < length old → flag_at new k ≡ (flag_at old k || has v.places k))
    → Tell atoms (are_in (take (number + 1) (variables_at atoms variables))) new
one_more_told atoms distinct variables number v old new there size told more = record {
  told = λ k p e.
      let vs = variables_at atoms variables in
      let here : slice_get vs number ≡ Some (variable_at atoms v) = slice_get-map (variable_at atoms) variables number ∙ ap (option_map (variable_at atoms)) there in
      let low = slice_get_within vs number (variable_at atoms v) here in
      let last : get_or vs number (variable_at atoms v) ≡ variable_at atoms v = get_or_from_slice_get vs number (variable_at atoms v) (variable_at atoms v) here in
      let in' : k < length old = omega (arith, size, slice_get_within atoms k p e) in
      more k in' ∙ rw (told.told k p e, ← contains_at atoms distinct v.places k p e) refl
      ∙ ap (λ (u : Variable). are_in (take number vs) p || contains u.atoms p) (sym last)
      ∙ sym (list_any_more (λ u. contains u.atoms p) vs number (variable_at atoms v) low);
}

-- ---- variables in order

module _ (task : PlanningTask) (actions : List Action) where
  -- what is in order, part by part
  order_parts : (earlier : List Variable) (v : Variable) → is_in_order task actions earlier v ≡ true
      → (is_misplaced task actions earlier v ≡ false) × (is_no_group task actions v ≡ false) × (is_not_full task actions v ≡ false)
  order_parts earlier v h =
      let a = and_parts (not (is_misplaced task actions earlier v) && not (is_no_group task actions v)) (not (is_not_full task actions v)) h in
      let b = and_parts (not (is_misplaced task actions earlier v)) (not (is_no_group task actions v)) a.0 in
      (not-true (is_misplaced task actions earlier v) b.0, not-true (is_no_group task actions v) b.1, not-true (is_not_full task actions v) a.1)

  apart : (earlier : List Variable) (v : Variable) → is_misplaced task actions earlier v ≡ false → (p : Atom) → Mem p v.atoms → (is_constant task actions p ≡ false) × (are_in earlier p ≡ false)
  apart earlier v h p m =
      or_parts (is_constant task actions p) (are_in earlier p)
      (none_at (λ p. is_constant task actions p || are_in earlier p) v.atoms p (or_parts (list_any (λ p. is_constant task actions p || are_in earlier p) v.atoms) _ h).0 m)

  variable_from : (earlier : List Variable) (v : Variable) (atoms : List Atom) → v.atoms ≡ atoms → 0 < length atoms → is_in_order task actions earlier v ≡ true → IsVariableOver task actions v atoms
  variable_from earlier v [] e some h = absurd (omega arith)
  variable_from earlier v (p ∷ []) e some h =
      let parts = order_parts earlier v h in
      let single : are_several v.atoms ≡ false = rw e (lt-leb 2 1 (omega arith)) in
      not-false v.has_none (rw single at ((or_parts (list_any (λ p. is_constant task actions p || are_in earlier p) v.atoms) _ parts.0).1))
  variable_from earlier v (p ∷ q ∷ rest) e some h =
      let parts = order_parts earlier v h in
      let several : are_several v.atoms ≡ true = rw e (le-leb 2 (suc (suc (length rest))) (omega arith)) in
      let order : (list_any (is_excluded task actions) v.atoms || not (at_most_one (wants task.goal) v.atoms)) ≡ false
      = rw several at ((or_parts (list_any (λ p. is_constant task actions p || are_in earlier p) v.atoms) _ parts.0).1) in
      let group : not (is_usable task actions v.atoms) ≡ false = rw several at parts.1 in
      let full : (not v.has_none && not (is_full task actions v.atoms)) ≡ false = rw several at parts.2 in
      let two = or_parts (list_any (is_excluded task actions) v.atoms) (not (at_most_one (wants task.goal) v.atoms)) order in
      record {
        usable = not-false (is_usable task actions v.atoms) group;
        kind = either v.has_none (is_full task actions v.atoms) full;
        positive = two.0;
        one_goal = not-false (at_most_one (wants task.goal) v.atoms) two.1;
      }
    where
      either : (a b : Bool) → (not a && not b) ≡ false → (a || b) ≡ true
      either true b h = refl
      either false true h = refl
      either false false h = absurd (true≢false h)

  -- the atom of each place
  at_place : (atoms : List Atom) (places : List ℕ) → ((p : ℕ) → Mem p places → p < length atoms) → (i : ℕ) (d : Atom) → i < length places
      → slice_get atoms (get_or places i 0) ≡ Some (get_or (atoms_at atoms places) i d)
  at_place atoms [] within i d l = absurd (omega arith)
  at_place atoms (q ∷ places) within zero d l = let x = get_of_within atoms q (within q (inl refl)) in x.1 ∙ rw x.1 refl
  at_place atoms (q ∷ places) within (suc i) d l =
      let x = get_of_within atoms q (within q (inl refl)) in
      at_place atoms places (λ p m. within p (inr m)) i d (omega arith) ∙ rw x.1 refl

  places_apart : (atoms : List Atom) → AreDistinct atoms → (places : List ℕ) → IsStrictlyIncreasing places → ((p : ℕ) → Mem p places → p < length atoms) → AllPairs (λ p q. p ≢ q) (atoms_at atoms places)
  places_apart atoms distinct places rising within i j d l m same =
      let size = length_at atoms places within in
      let a = at_place atoms places within i d (omega (arith, size)) in
      let b = at_place atoms places within j d (omega (arith, size)) in
      let up : get_or places i 0 < get_or places j 0 = AllPairs-from_increasing places rising i j 0 l (omega (arith, size)) in
      let one : get_or places i 0 ≡ get_or places j 0 = one_place atoms distinct (get_or places i 0) (get_or places j 0) (get_or (atoms_at atoms places) j d) (a ∙ ap Some same) b in
      omega (arith, up, one)

  module _ (atoms : List Atom) (distinct : AreDistinct atoms) (variables : List PlacedVariable) (placed : All (IsPlaced (length atoms)) variables) where
    -- each variable with its places
    placed_at : (k : ℕ) (v : Variable) → slice_get (variables_at atoms variables) k ≡ Some v → (u : PlacedVariable) × (v ≡ variable_at atoms u) × IsPlaced (length atoms) u
    placed_at k v e = go (slice_get variables k) refl
      where
        go : (o : Option PlacedVariable) → slice_get variables k ≡ o → (u : PlacedVariable) × (v ≡ variable_at atoms u) × IsPlaced (length atoms) u
        go None f = let none : slice_get (variables_at atoms variables) k ≡ None = slice_get-map (variable_at atoms) variables k ∙ ap (option_map (variable_at atoms)) f in cc
        go (Some u) f =
            let there : slice_get (variables_at atoms variables) k ≡ Some (variable_at atoms u) = slice_get-map (variable_at atoms) variables k ∙ ap (option_map (variable_at atoms)) f in
            let same : v ≡ variable_at atoms u = cc in
            (u, same, all_mem (IsPlaced (length atoms)) variables u placed (mem_get variables k u f))

    within_of : (u : PlacedVariable) → IsPlaced (length atoms) u → (p : ℕ) → Mem p u.places → p < length atoms
    within_of u h p m = all_mem (λ p. p < length atoms) u.places p h.within m

    pub variables_from : AreInOrder task actions (variables_at atoms variables) (length (variables_at atoms variables))
        → ((k : ℕ) (p : Atom) → slice_get atoms k ≡ Some p → (is_constant task actions p || are_in (variables_at atoms variables) p) ≡ true)
        → AreVariables task atoms actions (variables_at atoms variables)
    variables_from order covered = record {
      each = all_by_mem (IsVariableOf task actions) vs (λ v m.
          let w = get_of_mem vs v m in
          let u = placed_at w.0 v w.1 in
          let size : length v.atoms ≡ length u.0.places = ap (λ (x : Variable). length x.atoms) u.1 ∙ length_at atoms u.0.places (within_of u.0 u.2) in
          variable_from (take w.0 vs) v v.atoms refl (omega (arith, size, u.2.some)) (order w.0 v (slice_get_within vs w.0 v w.1) w.1));
      listed = all_by_mem (λ v. list_all (contains atoms) v.atoms ≡ true) vs (λ v m.
          let w = get_of_mem vs v m in
          let u = placed_at w.0 v w.1 in
          all_from (contains atoms) v.atoms (λ p n.
          let there : Mem p (atoms_at atoms u.0.places) = subst (λ (x : Variable). Mem p x.atoms) u.1 n in
          let q = at_mem atoms u.0.places p there in
          mem_contains atoms p (mem_get atoms q.0 p q.2)));
      distinct = all_by_mem (λ v. AllPairs (λ p q. p ≢ q) v.atoms) vs (λ v m.
          let w = get_of_mem vs v m in
          let u = placed_at w.0 v w.1 in
          subst (λ (x : Variable). AllPairs (λ p q. p ≢ q) x.atoms) (sym u.1) (places_apart atoms distinct u.0.places u.2.rising (within_of u.0 u.2)));
      covered = all_from (λ p. eqb (count_by (λ v. contains v.atoms p) vs) (cond (is_constant task actions p) 0 1)) atoms (λ p m.
          let w = get_of_mem atoms p m in
          let one : count_by (λ v. contains v.atoms p) vs ≡ cond (are_in vs p) 1 0 = counted_first (λ v. contains v.atoms p) vs (λ k v e t.
          (apart (take k vs) v (order_parts (take k vs) v (order k v (slice_get_within vs k v e) e)).0 p (contains_mem v.atoms p t)).1) in
          let constant_out : is_constant task actions p ≡ true → count_by (λ v. contains v.atoms p) vs ≡ 0 = λ t. none_counted (λ v. contains v.atoms p) vs (λ v n.
          false_from_ne_true (contains v.atoms p) (λ s.
          let k = get_of_mem vs v n in
          both_ways (is_constant task actions p)
          (apart (take k.0 vs) v (order_parts (take k.0 vs) v (order k.0 v (slice_get_within vs k.0 v k.1) k.1)).0 p (contains_mem v.atoms p s)).0 t)) in
          eq-eqb (count_by (λ v. contains v.atoms p) vs) (cond (is_constant task actions p) 0 1)
          (so (is_constant task actions p) (are_in vs p) (count_by (λ v. contains v.atoms p) vs) (covered w.0 p w.1) one constant_out));
    }
      where
        vs : List Variable
        vs = variables_at atoms variables

        so : (constant there : Bool) (n : ℕ) → (constant || there) ≡ true → n ≡ cond there 1 0 → (constant ≡ true → n ≡ 0) → n ≡ cond constant 0 1
        so true there n h one out = out refl
        so false true n h one out = one
        so false false n h one out = absurd (true≢false (sym h))

    -- what flags tell where each variable is in order
    module _ (constant taken : List Bool) (n count : ℕ) (all : length variables ≤ n) (size : count ≡ length atoms)
        (constant_told : Tell atoms (is_constant task actions) constant) (taken_told : Tell atoms (are_in (take n (variables_at atoms variables))) taken)
        (order : AreInOrder task actions (variables_at atoms variables) n) where
      long : length (variables_at atoms variables) ≤ n
      long = omega (arith, length-map variables (variable_at atoms))

      whole : AreInOrder task actions (variables_at atoms variables) (length (variables_at atoms variables))
      whole k v l e = order k v (omega (arith, l, long)) e

      both_told : (k : ℕ) (p : Atom) → slice_get atoms k ≡ Some p → (flag_at constant k || flag_at taken k) ≡ (is_constant task actions p || are_in (variables_at atoms variables) p)
      both_told k p e =
          rw (constant_told.told k p e, taken_told.told k p e)
          (ap (λ (vs : List Variable). is_constant task actions p || are_in vs p) (taken_whole n (variables_at atoms variables) long))

      pub covered_variables : ((k : ℕ) → k < count → (flag_at constant k || flag_at taken k) ≡ true) → AreVariables task atoms actions (variables_at atoms variables)
      covered_variables set =
          variables_from whole (λ k p e. sym (both_told k p e) ∙ set k (omega (arith, size, slice_get_within atoms k p e)))

      pub uncovered_first : (place : ℕ) → (place < count) × ((flag_at constant place || flag_at taken place) ≡ false) × ((k : ℕ) → k < place → (flag_at constant k || flag_at taken k) ≡ true)
          → IsFirstUncovered task actions atoms (variables_at atoms variables) place
      uncovered_first place h =
          let x = get_of_within atoms place (omega (arith, size, h.0)) in
          let out = or_parts (is_constant task actions x.0) (are_in (variables_at atoms variables) x.0) (sym (both_told place x.0 x.1) ∙ h.1) in
          record {
            in_order = whole;
            uncovered = rw x.1 (and_from (not (is_constant task actions x.0)) (not (are_in (variables_at atoms variables) x.0)) (not_from_false _ out.0) (not_from_false _ out.1));
            first = none_taken (is_uncovered task actions (variables_at atoms variables)) atoms place (λ k p l e.
                covered_not (is_constant task actions p) (are_in (variables_at atoms variables) p) (sym (both_told k p e) ∙ h.2 k l));
          }
        where
          covered_not : (a b : Bool) → (a || b) ≡ true → (not a && not b) ≡ false
          covered_not true b e = refl
          covered_not false true e = refl
          covered_not false false e = absurd (true≢false (sym e))
