-- The tests in their order, and the first fault by the first of them that fails.
use Rattle.std.proofs.Common.{◌≡◌, ◌≢◌, ℕ, suc, ◌≤◌, Bool, true, false, ◌&&◌, not, List, length, take, Some, refl, sym, ◌∙◌, inl, inr, arith}
use Rattle.std.specs.Prelude.{slice_get}
use Rattle.std.specs.List.{list_all, list_any}
use Rattle.std.proofs.lemmas.Bool.{and_parts, not-true, both_ways}
use Rattle.std.proofs.lemmas.Option.{slice_get_within}
use Rattle.fdr.specs.declared.task.TaskLimit.TheVariants as limit
use Rattle.pddl_task.specs.Atoms.{Atom, contains, has_wanted}
use Rattle.pddl_task.specs.Planning.{PlanningTask, Action}
use Rattle.pddl_task.proofs.Lists.{mem_get, all_at, any_from}
use Rattle.pddl_task.proofs.AtomLaws.{contains_mem}
use Rattle.ground_theory.specs.Grounding.{actions_over, IsClosed}
use Rattle.ground_theory.proofs.Binding.{closed_forth}
use Rattle.ground.specs.Search.{max_actions}
use Rattle.ground.specs.Rounds.{max_atoms}
use Rattle.ground.specs.Closing.{is_open}
use Rattle.translate_theory.specs.Translations.{Variable}
use Rattle.translate_theory.specs.Variables.{PlacedVariable, variables_at}
use Rattle.translate_vars.specs.declared.fault.TranslateFault.{TranslateFault}
use Rattle.translate_vars.specs.declared.fault.TranslateFault.TheVariants as fault
use Rattle.translate_vars.specs.Parts.{has_long_range, AreWithinLimits, AreFit}
use Rattle.translate_vars.specs.Faults.{AreAtomsOf, AreGrounded, is_misplaced, is_no_group, is_not_full, AreInOrder, IsFirstWrong, is_uncovered, IsFirstFault}
use Rattle.translate_vars.proofs.ListingLaws.{taken_get, known_at}
use Rattle.translate_vars.proofs.GoalLaws.{none_outside}
use Rattle.translate_vars.proofs.OrderLaws.{fault_with}
use Rattle.translate_vars.proofs.ReverseLaws.{order_from, none_uncovered}
use Rattle.translate_vars.proofs.FaultLaws.{First, IsOne, one_first, passed, same_as, found, some_and, known_less, IsBad, IsMissingInitial, IsMissingGoal, IsOpenAt, IsWrongAt, IsUncoveredAt, one_bad, one_initial, one_goal, one_open, not_wrong, one_wrong, one_uncovered}

module _ (task : PlanningTask) (atoms : List Atom) (variables : List PlacedVariable) where
  abbrev chosen : List Variable
  chosen = variables_at atoms variables

  abbrev over : List Action
  over = actions_over task (contains atoms)

  -- no fault is left
  abbrev Nothing : TranslateFault → Type 0
  Nothing e = ⊥

  abbrev FromCovering : TranslateFault → Type 0
  FromCovering = First (list_any (is_uncovered task over chosen) atoms ≡ false) (IsUncoveredAt task atoms over chosen) Nothing

  abbrev FromVariables : TranslateFault → Type 0
  FromVariables = First (AreInOrder task over chosen (length chosen)) (IsWrongAt task atoms over chosen) FromCovering

  abbrev FromClosing : TranslateFault → Type 0
  FromClosing =
      First (list_all (contains atoms) task.initial ≡ true) (IsMissingInitial task atoms)
      (First (has_wanted (contains atoms) task.goal ≡ true) (IsMissingGoal task atoms)
      (First (IsClosed task (contains atoms)) (IsOpenAt task atoms) FromVariables))

  abbrev FromAtoms : TranslateFault → Type 0
  FromAtoms = First (AreAtomsOf task atoms) (IsBad task atoms) (First (length over ≤ max_actions) (λ e. e ≡ fault.GroundLimit) FromClosing)

  abbrev FromLimits : TranslateFault → Type 0
  FromLimits =
      First (length atoms ≤ max_atoms) (λ e. e ≡ fault.GroundLimit)
      (First (length variables ≤ 65536) (λ e. e ≡ fault.Limit limit.Variables)
      (First (has_long_range variables ≡ false) (λ e. e ≡ fault.Limit limit.Values) FromAtoms))

  one_from_limits : IsOne FromLimits
  one_from_limits =
      one_first _ _ _ (same_as fault.GroundLimit)
      (one_first _ _ _ (same_as (fault.Limit limit.Variables))
      (one_first _ _ _ (same_as (fault.Limit limit.Values))
      (one_first _ _ _ (one_bad task atoms)
      (one_first _ _ _ (same_as fault.GroundLimit)
      (one_first _ _ _ (one_initial task atoms)
      (one_first _ _ _ (one_goal task atoms)
      (one_first _ _ _ (one_open task atoms)
      (one_first _ _ _ (one_wrong task atoms over chosen)
      (one_first _ _ _ (one_uncovered task atoms over chosen) (λ e f a b. absurd a))))))))))

  past_limits : (e : TranslateFault) → AreWithinLimits atoms variables → FromAtoms e → FromLimits e
  past_limits e within h = inr (within.few_atoms, inr (within.few_variables, inr (within.few_values, h)))

  past_closing : (e : TranslateFault) → AreGrounded task atoms → FromVariables e → FromAtoms e
  past_closing e grounded h =
      inr (grounded.known, inr (grounded.few, inr (grounded.is_closed.initial, inr (grounded.is_closed.goal, inr (grounded.is_closed.closed, h)))))

  -- a variable with which something is wrong
  wrong : (e : TranslateFault) (k : ℕ) (test : List Variable → Variable → Bool) → IsFirstWrong task over chosen k test
      → ((v : Variable) → test (take k chosen) v ≡ true → fault_with task over (take k chosen) k v ≡ Some e) → FromVariables e
  wrong e k test h tells =
      let w = some_and (slice_get chosen k) (λ v. test (take k chosen) v ≡ true) h.1 in
      let is = tells w.0 w.2 in
      inl (
        λ order. not_wrong task atoms over chosen (take k chosen) k w.0 e (order k w.0 (slice_get_within chosen k w.0 w.1) w.1) is,
        (k, w.0, h.0, w.1, is),
      )

  pub staged : (e : TranslateFault) → e ≢ fault.OutOfMemory → IsFirstFault task atoms variables e → FromLimits e
  staged fault.OutOfMemory some h = absurd (some refl)
  staged fault.GroundLimit some (inl many) = inl (λ few. omega (arith, few, many), refl)
  staged fault.GroundLimit some (inr h) = past_limits fault.GroundLimit h.0 (inr (h.1, inl (λ few. omega (arith, few, h.2), refl)))
  staged (fault.Limit limit.Variables) some h = inr (h.0, inl (λ few. omega (arith, few, h.1), refl))
  staged (fault.Limit limit.Values) some h = inr (h.0, inr (h.1, inl (λ few. both_ways (has_long_range variables) few h.2, refl)))
  staged (fault.Limit limit.Operators) some h = absurd h
  staged (fault.BadAtom k) some h =
      past_limits (fault.BadAtom k) h.0
      (inl (λ known. h.1.bad (known_less task (take (suc k) atoms) atoms (λ i p e. (taken_get atoms (suc k) i p e).1) known), (k, refl, h.1)))
  staged (fault.Missing p) some (within, known, few, inl least) =
      past_limits (fault.Missing p) within
      (inr (known, inr (few, inl (λ all. both_ways (contains atoms p) least.missing (all_at (contains atoms) task.initial p all (contains_mem task.initial p least.added)), (p, refl, least)))))
  staged (fault.Missing p) some (within, known, few, inr h) =
      past_limits (fault.Missing p) within
      (inr (known, inr (few, inr (h.0, inl (λ all. let none = none_outside (contains atoms) task.goal all in cc (sym none ∙ h.1), (p, refl, h.1))))))
  staged (fault.NotClosed p) some (within, known, few, initial, goal, open_) =
      past_limits (fault.NotClosed p) within
      (inr (
        known,
        inr (
          few,
          inr (
            initial,
            inr (
              goal,
              inl (
                λ closed.
                    let w = found (is_open (contains atoms)) over open_.0 open_.1.first in
                    both_ways (list_all (contains atoms) open_.0.adds) (not-true (list_all (contains atoms) open_.0.adds) w.1)
                    (all_at (λ (a : Action). list_all (contains atoms) a.adds) over open_.0 (closed_forth task (contains atoms) closed) w.0),
                (p, refl, open_),
              ),
            ),
          ),
        ),
      ))
  staged (fault.Uncovered k) some (within, grounded, first) =
      past_limits (fault.Uncovered k) within (past_closing (fault.Uncovered k) grounded
      (inr (
        first.in_order,
        inl (
          λ none.
              let w = some_and (slice_get atoms k) (λ p. is_uncovered task over chosen p ≡ true) first.uncovered in
              both_ways (list_any (is_uncovered task over chosen) atoms) none (any_from (is_uncovered task over chosen) atoms w.0 (mem_get atoms k w.0 w.1) w.2),
          (k, refl, first),
        ),
      )))
  staged (fault.NotGroup k) some (within, grounded, first) =
      past_limits (fault.NotGroup k) within (past_closing (fault.NotGroup k) grounded
      (wrong (fault.NotGroup k) k (λ earlier v. not (is_misplaced task over earlier v) && is_no_group task over v) first (λ v t.
      let parts = and_parts (not (is_misplaced task over (take k chosen) v)) (is_no_group task over v) t in
      rw (not-true (is_misplaced task over (take k chosen) v) parts.0, parts.1) refl)))
  staged (fault.NotFull k) some (within, grounded, first) =
      past_limits (fault.NotFull k) within (past_closing (fault.NotFull k) grounded
      (wrong (fault.NotFull k) k (λ earlier v. not (is_misplaced task over earlier v) && not (is_no_group task over v) && is_not_full task over v) first (λ v t.
      let parts = and_parts (not (is_misplaced task over (take k chosen) v) && not (is_no_group task over v)) (is_not_full task over v) t in
      let before = and_parts (not (is_misplaced task over (take k chosen) v)) (not (is_no_group task over v)) parts.0 in
      rw (not-true (is_misplaced task over (take k chosen) v) before.0, not-true (is_no_group task over v) before.1, parts.1) refl)))
  staged (fault.Misplaced k) some (within, grounded, first) =
      past_limits (fault.Misplaced k) within (past_closing (fault.Misplaced k) grounded
      (wrong (fault.Misplaced k) k (is_misplaced task over) first (λ v t. rw t refl)))

  pub one_fault_of : (e f : TranslateFault) → e ≢ fault.OutOfMemory → f ≢ fault.OutOfMemory → IsFirstFault task atoms variables e → IsFirstFault task atoms variables f → e ≡ f
  one_fault_of e f some other h g = one_from_limits e f (staged e some h) (staged f other g)

  pub none_if_fit : (e : TranslateFault) → e ≢ fault.OutOfMemory → IsFirstFault task atoms variables e → AreFit task atoms variables → ⊥
  none_if_fit e some h fit =
      let a = passed fit.within.few_atoms (staged e some h) in
      let b = passed fit.within.few_variables a in
      let c = passed fit.within.few_values b in
      let d = passed (known_at task atoms fit.listed.known fit.listed.distinct) c in
      let f = passed fit.few_actions d in
      let g = passed fit.listed.is_closed.initial f in
      let i = passed fit.listed.is_closed.goal g in
      let j = passed fit.listed.is_closed.closed i in
      let k = passed (order_from task over atoms chosen fit.chosen) j in
      passed (none_uncovered task over atoms chosen fit.chosen) k
