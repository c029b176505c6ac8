-- What flags tell of a variable is what the definitions say of it, and what that says of the first fault.
use Rattle.std.proofs.Common.{◌≡◌, ℕ, ◌+◌, ◌<◌, Bool, true, false, ◌&&◌, ◌||◌, not, cond, List, [], ◌∷◌, length, take, Option, Some, None, refl, eqb, ltb, leb, subst, arith}
use Rattle.std.specs.Prelude.{slice_get}
use Rattle.std.specs.List.{list_any}
use Rattle.std.proofs.lemmas.Bool.{lt-leb, le-leb, ltb-true, ltb-false, and_parts, and_from, not-true, not_from_false, not_from_true, true≢false, both_ways, or_parts, or_cases}
use Rattle.pddl_task.specs.Atoms.{Atom, State, contains, at_most_one, wants}
use Rattle.pddl_task.specs.Planning.{PlanningTask, Action}
use Rattle.pddl_task.proofs.Lists.{Mem, all_mem}
use Rattle.ground_theory.specs.Grounding.{actions_over}
use Rattle.ground_atoms.specs.Order.{AreDistinct}
use Rattle.mutex_index.specs.Groups.{is_constant, is_excluded, is_usable, is_full}
use Rattle.mutex_index.specs.Places.{Indexed, atoms_at}
use Rattle.translate_theory.specs.Translations.{Variable}
use Rattle.translate_theory.specs.Variables.{PlacedVariable, IsPlaced, variable_at, variables_at}
use Rattle.translate_vars.specs.declared.fault.TranslateFault.{TranslateFault}
use Rattle.translate_vars.specs.declared.fault.TranslateFault.TheVariants.{Misplaced, NotGroup, NotFull}
use Rattle.translate_vars.specs.declared.flags.AtomFlags.{AtomFlags}
use Rattle.translate_vars.specs.Parts.{AreWithinLimits}
use Rattle.translate_vars.specs.Faults.{AreGrounded, is_misplaced, is_no_group, is_not_full, is_in_order, AreInOrder, IsFirstFault}
use Rattle.translate_vars.specs.Flags.{Tell, AreFlags, fault_at}
use Rattle.translate_vars.proofs.FlagLaws.{length_at, any_told, one_told}

-- the atoms of some variables
abbrev pub are_in : List Variable → State
are_in variables p = list_any (λ v. contains v.atoms p) variables

-- the first of these faults that a variable has
abbrev pub fault_from : Bool → Bool → Bool → ℕ → Option TranslateFault
fault_from misplaced no_group not_full number =
    cond misplaced (Some (Misplaced number)) (cond no_group (Some (NotGroup number)) (cond not_full (Some (NotFull number)) None))

abbrev pub fault_with : PlanningTask → List Action → List Variable → ℕ → Variable → Option TranslateFault
fault_with task actions earlier number v =
    fault_from (is_misplaced task actions earlier v) (is_no_group task actions v) (is_not_full task actions v) number

any_either : {X : Type 0} (f g : X → Bool) (xs : List X) → list_any (λ x. f x || g x) xs ≡ (list_any f xs || list_any g xs)
any_either f g [] = refl
any_either f g (x ∷ xs) = rw (any_either f g xs) (go (f x) (g x) (list_any f xs) (list_any g xs))
  where
    go : (a b c d : Bool) → ((a || b) || (c || d)) ≡ ((a || c) || (b || d))
    go true b c d = refl
    go false true true d = refl
    go false true false d = refl
    go false false c d = refl

several : (n : ℕ) → leb 2 n ≡ not (ltb n 2)
several n = go (ltb n 2) refl
  where
    go : (b : Bool) → ltb n 2 ≡ b → leb 2 n ≡ not b
    go true e = lt-leb 2 n (ltb-true n 2 e)
    go false e = le-leb 2 n (ltb-false n 2 e)

module _ (i : Indexed) (flags : AtomFlags) (taken : List Bool) (earlier : List Variable) (distinct : AreDistinct i.atoms) (are : AreFlags i flags) (told : Tell i.atoms (are_in earlier) taken) where
  pub fault_is : (number : ℕ) (v : PlacedVariable) → IsPlaced (length i.atoms) v → fault_at i flags taken number v ≡ fault_with i.task i.actions earlier number (variable_at i.atoms v)
  fault_is number v placed =
      rw (
        any_told i.atoms (is_constant i.task i.actions) flags.constant.items are.constant v.places within,
        any_told i.atoms (are_in earlier) taken told v.places within,
        any_told i.atoms (is_excluded i.task i.actions) flags.excluded.items are.excluded v.places within,
        one_told i.atoms (wants i.task.goal) flags.goal.items are.goal distinct v.places placed.rising within,
        any_either (is_constant i.task i.actions) (are_in earlier) (atoms_at i.atoms v.places),
        length_at i.atoms v.places within,
        several (length v.places),
      )
      (go (list_any (is_constant i.task i.actions) (atoms_at i.atoms v.places) || list_any (are_in earlier) (atoms_at i.atoms v.places))
      (ltb (length v.places) 2) v.has_none
      (list_any (is_excluded i.task i.actions) (atoms_at i.atoms v.places) || not (at_most_one (wants i.task.goal) (atoms_at i.atoms v.places)))
      (is_usable i.task i.actions (atoms_at i.atoms v.places)) (is_full i.task i.actions (atoms_at i.atoms v.places)))
    where
      within : (p : ℕ) → Mem p v.places → p < length i.atoms
      within p m = all_mem (λ p. p < length i.atoms) v.places p placed.within m

      go : (m single h x u f : Bool)
          → cond (m || cond single (not h) x) (Some (Misplaced number)) (cond single None (cond (not u) (Some (NotGroup number)) (cond (not h && not f) (Some (NotFull number)) None)))
          ≡ fault_from (m || cond (not single) x (not h)) (not single && not u) (not single && not h && not f) number
      go true single h x u f = refl
      go false true true x u f = refl
      go false true false x u f = refl
      go false false h true u f = refl
      go false false h false true f = refl
      go false false h false false f = refl

-- ---- the first fault

none_wrong : (m n f : Bool) (number : ℕ) → fault_from m n f number ≡ None → (not m && not n && not f) ≡ true
none_wrong true n f number e = cc e
none_wrong false true f number e = cc e
none_wrong false false true number e = cc e
none_wrong false false false number e = refl

pub in_order_with : (task : PlanningTask) (actions : List Action) (earlier : List Variable) (number : ℕ) (v : Variable) → fault_with task actions earlier number v ≡ None → is_in_order task actions earlier v ≡ true
in_order_with task actions earlier number v e = none_wrong (is_misplaced task actions earlier v) (is_no_group task actions v) (is_not_full task actions v) number e

-- one more variable is in order
pub one_more_in_order : (task : PlanningTask) (actions : List Action) (variables : List Variable) (number : ℕ) (v : Variable) → slice_get variables number ≡ Some v
    → fault_with task actions (take number variables) number v ≡ None → AreInOrder task actions variables number → AreInOrder task actions variables (number + 1)
one_more_in_order task actions variables number v e none before k u l h = go (eqb k number) refl
  where
    go : (b : Bool) → eqb k number ≡ b → is_in_order task actions (take k variables) u ≡ true
    go true q =
        let same : k ≡ number = Rattle.std.proofs.lemmas.Bool.eqb-true k number q in
        let there : slice_get variables number ≡ Some u = subst (λ n. slice_get variables n ≡ Some u) same h in
        let both : v ≡ u = cc (e, there) in
        rw (same, ← both) (in_order_with task actions (take number variables) number v none)
    go false q = before k u (omega (arith, l, Rattle.std.proofs.lemmas.Bool.eqb-false k number q)) h

module _ (task : PlanningTask) (atoms : List Atom) (variables : List PlacedVariable) (within : AreWithinLimits atoms variables) (grounded : AreGrounded task atoms) where
  -- with the actions over the atoms, what is wrong with a variable is the first fault where nothing is wrong with earlier ones
  first_wrong : (number : ℕ) (v : Variable) → slice_get (variables_at atoms variables) number ≡ Some v
      → AreInOrder task (actions_over task (contains atoms)) (variables_at atoms variables) number
      → (m n f : Bool) → is_misplaced task (actions_over task (contains atoms)) (take number (variables_at atoms variables)) v ≡ m
      → is_no_group task (actions_over task (contains atoms)) v ≡ n → is_not_full task (actions_over task (contains atoms)) v ≡ f
      → (e : TranslateFault) → fault_from m n f number ≡ Some e → IsFirstFault task atoms variables e
  first_wrong number v there before true n f em en ef e h =
      let is : Misplaced number ≡ e = cc h in
      rw (← is) (within, grounded, (before, rw there em))
  first_wrong number v there before false true f em en ef e h =
      let is : NotGroup number ≡ e = cc h in
      rw (← is) (within, grounded, (before, rw (there, em, en) refl))
  first_wrong number v there before false false true em en ef e h =
      let is : NotFull number ≡ e = cc h in
      rw (← is) (within, grounded, (before, rw (there, em, en, ef) refl))
  first_wrong number v there before false false false em en ef e h = cc h

  pub fault_first : (actions : List Action) → actions ≡ actions_over task (contains atoms) → (number : ℕ) (v : Variable) → slice_get (variables_at atoms variables) number ≡ Some v
      → AreInOrder task actions (variables_at atoms variables) number
      → (e : TranslateFault) → fault_with task actions (take number (variables_at atoms variables)) number v ≡ Some e → IsFirstFault task atoms variables e
  fault_first actions same number v there before e h =
      let vs = variables_at atoms variables in
      first_wrong number v there (subst (λ (as_ : List Action). AreInOrder task as_ vs number) same before) _ _ _ refl refl refl e
      (subst (λ (as_ : List Action). fault_with task as_ (take number vs) number v ≡ Some e) same h)
