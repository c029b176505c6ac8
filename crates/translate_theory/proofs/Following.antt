-- The states that runs of listed actions lead to, and their values of the variables.
use Rattle.std.proofs.Common.{◌≡◌, ℕ, suc, ◌+◌, ◌<◌, Bool, true, false, ◌&&◌, not, cond, eqb, List, [], ◌∷◌, length, Some, None, refl, sym, arith, inl, inr, ⊎_elim, ◌∙◌}
use Rattle.std.specs.Prelude.{unwrap_or, count_by}
use Rattle.std.specs.List.{list_all, list_any, position_or_len}
use Rattle.std.specs.Option.{option_map_or}
use Rattle.std.proofs.lemmas.Bool.{and_parts, cases_Bool, cond_both, cond-true, cond-false, false_from_ne_true, both_ways, eqb-true, eq-eqb, not-true}
use Rattle.std.proofs.lemmas.List.Sums.{sum_by-cons}
use Rattle.pddl_task.specs.Atoms.{Atom, State, Literal, contains, at_most_one, satisfies, wants, excludes, is_contradictory, has_wanted}
use Rattle.pddl_task.specs.Planning.{PlanningTask, Action, IsActionOf}
use Rattle.pddl_task.specs.Plans.{is_applicable, next_state}
use Rattle.ground_theory.specs.Grounding.{AreListedAtoms, AreListedActions}
use Rattle.mutex_index.specs.Groups.{removes, is_excluded, is_constant}
use Rattle.mutex_index.specs.Groups.{takes_over, starts_inside, is_group, is_usable}
use Rattle.translate_theory.specs.Translations.{Variable, IsGroupVariable, IsVariableOf, IsVariableOver, AreVariables, value_in, condition_on, target_on, is_single}
use Rattle.pddl_task.proofs.Lists.{Mem, mem_from_contains, all_mem, bool_same, all_at, any_at, any_from, none_at, same_position, position_none, position_below, common_first}
use Rattle.pddl_task.proofs.AtomLaws.{contains_mem, one_of, one_single, wanted_holds, excluded_fails, satisfied_from, not_both, wanted_in}
use Rattle.ground_theory.proofs.Runs.{IsInside, step_inside, initial_inside, applies_over}
use Rattle.mutex_index.proofs.GroupLaws.{next_kept, one_after}
use Rattle.translate_theory.proofs.ValueLaws.{group_value, single_value}

-- some element passes if not none do
counted : {X : Type 0} (p : X → Bool) (xs : List X) (n : ℕ) → count_by p xs ≡ suc n → (x : X) × Mem x xs × (p x ≡ true)
counted p [] n e = absurd (omega arith)
counted {X = X} p (x ∷ xs) n e = go (p x) refl (sum_by-cons (λ x. cond (p x) 1 0) x xs) (counted p xs n)
  where
    go : (b : Bool) → p x ≡ b → count_by p (x ∷ xs) ≡ cond (p x) 1 0 + count_by p xs → (count_by p xs ≡ suc n → (y : X) × Mem y xs × (p y ≡ true)) → (y : X) × Mem y (x ∷ xs) × (p y ≡ true)
    go true q s ih = (x, inl refl, q)
    go false q s ih =
        let zero_here : ◌≡◌ {A = ℕ} (cond (p x) 1 0) 0 = rw q in
        let w = ih (omega (arith, s, e, zero_here)) in (w.0, inr w.1, w.2)

-- what a usable group's test says of each action
module _ (task : PlanningTask) (actions : List Action) (g : List Atom) (usable : is_usable task actions g ≡ true) where
  group_part : is_group task actions g ≡ true
  group_part = (and_parts (is_group task actions g) (list_all (starts_inside g) actions) usable).0

  pub group_initially : at_most_one (contains task.initial) g ≡ true
  group_initially = (and_parts _ (list_all (λ a. at_most_one (contains a.adds) g && takes_over g a) actions) group_part).0

  keeps_at : (a : Action) → Mem a actions → (at_most_one (contains a.adds) g && takes_over g a) ≡ true
  keeps_at a m = all_at (λ (a : Action). at_most_one (contains a.adds) g && takes_over g a) actions a (and_parts (at_most_one (contains task.initial) g) (list_all (λ a. at_most_one (contains a.adds) g && takes_over g a) actions) group_part).1 m

  pub adds_one : (a : Action) → Mem a actions → at_most_one (contains a.adds) g ≡ true
  adds_one a m = (and_parts (at_most_one (contains a.adds) g) (takes_over g a) (keeps_at a m)).0

  pub over_at : (a : Action) → Mem a actions → takes_over g a ≡ true
  over_at a m = (and_parts (at_most_one (contains a.adds) g) (takes_over g a) (keeps_at a m)).1

  pub inside_at : (a : Action) → Mem a actions → starts_inside g a ≡ true
  inside_at a m = all_at (starts_inside g) actions a (and_parts (is_group task actions g) (list_all (starts_inside g) actions) usable).1 m

-- a variable is a single atom or a group of several
pub variable_cases : (task : PlanningTask) (actions : List Action) (C : Variable → Type 0)
    → ((p : Atom) → C (record { atoms = p ∷ []; has_none = true }))
    → ((v : Variable) → IsGroupVariable task actions v → is_single v.atoms ≡ false → C v)
    → (v : Variable) → IsVariableOf task actions v → C v
variable_cases task actions C single group v ok = go v.atoms v.has_none (λ i. v) ok
  where
    go : (g : List Atom) (b : Bool) → v ≡ record { atoms = g; has_none = b } → IsVariableOver task actions (record { atoms = g; has_none = b }) g → C v
    go [] b e h = absurd h
    go (p ∷ []) b e h = rw (e, h) (single p)
    go (p ∷ q ∷ rest) b e h = rw e (group (record { atoms = p ∷ q ∷ rest; has_none = b }) h refl)

-- what every state has that a run of listed actions leads to
pub record Follows (task : PlanningTask) (atoms : List Atom) (actions : List Action) (variables : List Variable) (state : State) : Type 0 where
  pub inside : IsInside (contains atoms) state
  pub constant : (p : Atom) → is_constant task actions p ≡ true → state p ≡ true
  pub single : (v : Variable) → Mem v variables → at_most_one state v.atoms ≡ true

module _ (task : PlanningTask) (atoms : List Atom) (actions : List Action) (variables : List Variable)
    (listed : AreListedAtoms task atoms) (all : AreListedActions task atoms actions) (ok : AreVariables task atoms actions variables) where
  pub variable_at : (v : Variable) → Mem v variables → IsVariableOf task actions v
  variable_at v m = all_mem (IsVariableOf task actions) variables v ok.each m

  -- an atom that is not constant is in a variable
  covering : (p : Atom) → contains atoms p ≡ true → is_constant task actions p ≡ false → (v : Variable) × Mem v variables × (contains v.atoms p ≡ true)
  covering p there free =
      let e = all_at (λ p. eqb (count_by (λ (v : Variable). contains v.atoms p) variables) (cond (is_constant task actions p) 0 1)) atoms p ok.covered (contains_mem atoms p there) in
      let n : count_by (λ (v : Variable). contains v.atoms p) variables ≡ 1 = eqb-true _ 1 (rw free at e) in
      counted (λ (v : Variable). contains v.atoms p) variables 0 n

  module _ (state : State) (fits : Follows task atoms actions variables state) (literals : List Literal)
      (known : (p : Atom) → excludes literals p ≡ true → is_excluded task actions p ≡ true)
      (over : has_wanted (contains atoms) literals ≡ true) where
    -- where the literals hold, each variable has the value that they name
    pub condition_met : (v : Variable) → Mem v variables → satisfies state literals ≡ true
        → option_map_or (λ x. eqb (value_in state v) x) (condition_on literals v) true ≡ true
    condition_met v m sat =
        cond_both (list_any (wants literals) v.atoms) _ _ (λ c. option_map_or (λ x. eqb (value_in state v) x) c true ≡ true)
        wanted
        (λ none. cond_both (list_any (excludes literals) v.atoms) (Some (length v.atoms)) None (λ c. option_map_or (λ x. eqb (value_in state v) x) c true ≡ true)
        excluded (λ e. refl))
      where
        wanted : list_any (wants literals) v.atoms ≡ true → eqb (value_in state v) (position_or_len (wants literals) v.atoms) ≡ true
        wanted some =
            let p = any_at (wants literals) v.atoms some in
            eq-eqb _ _ (same_position state (wants literals) v.atoms (λ q mq. bool_same (state q) (wants literals q)
            (λ sq. let same : q ≡ p.0 = one_of state v.atoms (fits.single v m) q p.0 mq p.1 sq (wanted_holds literals state p.0 sat p.2) in rw same p.2)
            (wanted_holds literals state q sat)))

        excluded : list_any (excludes literals) v.atoms ≡ true → eqb (value_in state v) (length v.atoms) ≡ true
        excluded some =
            variable_cases task actions (λ v. list_any (excludes literals) v.atoms ≡ true → eqb (value_in state v) (length v.atoms) ≡ true)
            (λ r some. let p = any_at (excludes literals) (r ∷ []) some in
            eq-eqb (position_or_len state (r ∷ [])) 1 (position_none state (r ∷ []) (λ q mq. ⊎_elim
            (λ (e : r ≡ q). ⊎_elim (λ (k : r ≡ p.0). rw (← e, k) (excluded_fails literals state p.0 sat p.2)) (λ (k : ⊥). absurd k) p.1)
            (λ (k : ⊥). absurd k) mq)))
            (λ v group several some. let p = any_at (excludes literals) v.atoms some in
            absurd (both_ways _ group.positive (any_from (is_excluded task actions) v.atoms p.0 p.1 (known p.0 p.2))))
            v (variable_at v m) some

    -- and the other way round
    pub met_satisfies : is_contradictory literals ≡ false → ((v : Variable) → Mem v variables → at_most_one (wants literals) v.atoms ≡ true)
        → ((v : Variable) → Mem v variables → option_map_or (λ x. eqb (value_in state v) x) (condition_on literals v) true ≡ true)
        → satisfies state literals ≡ true
    met_satisfies sound one met = satisfied_from literals state true_ false_
      where
        in_variable : (p : Atom) → wants literals p ≡ true → (v : Variable) × Mem v variables × (contains v.atoms p ≡ true) → state p ≡ true
        in_variable p w c =
            let v = c.0 in
            let mp = contains_mem v.atoms p c.2 in
            let some = any_from (wants literals) v.atoms p mp w in
            let here = rw (cond-true (list_any (wants literals) v.atoms) (Some (position_or_len (wants literals) v.atoms)) (cond (list_any (excludes literals) v.atoms) (Some (length v.atoms)) None) some) at (met v c.1) in
            let q = common_first state (wants literals) v.atoms (eqb-true (value_in state v) (position_or_len (wants literals) v.atoms) here) some in
            let same : q.0 ≡ p = one_of (wants literals) v.atoms (one v c.1) q.0 p q.1 mp q.3 w in
            rw same at q.2

        true_ : (p : Atom) → wants literals p ≡ true → state p ≡ true
        true_ p w =
            let there = wanted_in literals (contains atoms) p over w in
            ⊎_elim (fits.constant p) (λ free. in_variable p w (covering p there free)) (cases_Bool (is_constant task actions p))

        out_of_variable : (p : Atom) → excludes literals p ≡ true → (v : Variable) → Mem v variables → contains v.atoms p ≡ true → state p ≡ true → ⊥
        out_of_variable p x v m there sp =
            variable_cases task actions
            (λ v. option_map_or (λ x. eqb (value_in state v) x) (condition_on literals v) true ≡ true → contains v.atoms p ≡ true → ⊥)
            (λ r met there. ⊎_elim
            (λ (e : r ≡ p).
            let not_wanted : list_any (wants literals) (r ∷ []) ≡ false = false_from_ne_true _ (λ k.
            let w = any_at (wants literals) (r ∷ []) k in
            ⊎_elim (λ (d : r ≡ w.0). not_both literals p sound (let same : p ≡ w.0 = sym e ∙ d in rw same w.2) x) (λ (k : ⊥). k) w.1) in
            let named : list_any (excludes literals) (r ∷ []) ≡ true = any_from (excludes literals) (r ∷ []) r (inl refl) (rw e x) in
            let named_none : condition_on literals (record { atoms = r ∷ []; has_none = true }) ≡ Some 1 =
            cond-false (list_any (wants literals) (r ∷ [])) _ _ not_wanted ∙ cond-true (list_any (excludes literals) (r ∷ [])) _ _ named in
            let value : position_or_len state (r ∷ []) ≡ 1 = eqb-true (position_or_len state (r ∷ [])) 1 (rw named_none at met) in
            let low : position_or_len state (r ∷ []) < 1 = position_below state (r ∷ []) (any_from state (r ∷ []) r (inl refl) (rw e sp)) in
            absurd (omega arith))
            (λ (k : ⊥). k) (contains_mem (r ∷ []) p there))
            (λ v group several met there.
            both_ways _ group.positive (any_from (is_excluded task actions) v.atoms p (contains_mem v.atoms p there) (known p x)))
            v (variable_at v m) (met v m) there

        false_ : (p : Atom) → excludes literals p ≡ true → state p ≡ false
        false_ p x = false_from_ne_true (state p) (λ sp.
            let free : is_constant task actions p ≡ false = false_from_ne_true _ (λ c.
            both_ways _ (not-true _ (and_parts (contains task.initial p && not (list_any (λ a. removes a p) actions)) (not (is_excluded task actions p)) c).1) (known p x)) in
            let v = covering p (fits.inside p sp) free in
            out_of_variable p x v.0 v.1 v.2 sp)

  pub follows_initial : Follows task atoms actions variables (contains task.initial)
  follows_initial =
      record {
        inside = initial_inside task (contains atoms) listed.is_closed.initial;
        constant = λ p c. (and_parts (contains task.initial p) (not (list_any (λ a. removes a p) actions)) (and_parts _ (not (is_excluded task actions p)) c).0).0;
        single = λ v m. variable_cases task actions (λ v. at_most_one (contains task.initial) v.atoms ≡ true)
            (λ p. one_single (contains task.initial) p)
            (λ v group several. group_initially task actions v.atoms group.usable) v (variable_at v m);
      }

  -- an action that applies is listed
  pub is_listed : (state : State) (a : Action) → Follows task atoms actions variables state → IsActionOf task a → is_applicable state a ≡ true → Mem a actions
  is_listed state a fits is app =
      mem_from_contains actions a (all.complete a is (applies_over (contains atoms) state a fits.inside app))

  pub follows_next : (state : State) (a : Action) → Follows task atoms actions variables state → Mem a actions → is_applicable state a ≡ true → Follows task atoms actions variables (next_state state a)
  follows_next state a fits m app =
      record {
        inside = step_inside task (contains atoms) listed.is_closed.closed state a fits.inside (all_mem (IsActionOf task) actions a all.grounded m) app;
        constant = λ p c. next_kept state a p (fits.constant p c) (stays p c);
        single = λ v mv. variable_cases task actions (λ v. at_most_one state v.atoms ≡ true → at_most_one (next_state state a) v.atoms ≡ true)
            (λ p one. one_single (next_state state a) p)
            (λ v group several one. one_after state a app v.atoms one (adds_one task actions v.atoms group.usable a m) (over_at task actions v.atoms group.usable a m))
            v (variable_at v mv) (fits.single v mv);
      }
    where
      stays : (p : Atom) → is_constant task actions p ≡ true → removes a p ≡ false
      stays p c =
          none_at (λ (b : Action). removes b p) actions a
          (not-true _ (and_parts (contains task.initial p) (not (list_any (λ b. removes b p) actions)) (and_parts _ (not (is_excluded task actions p)) c).0).1) m

  -- the value of each variable after a listed action
  pub value_follows : (state : State) (a : Action) → Follows task atoms actions variables state → Mem a actions → is_applicable state a ≡ true → (v : Variable) → Mem v variables
      → value_in (next_state state a) v ≡ unwrap_or (target_on a v) (value_in state v)
  value_follows state a fits m app v mv =
      variable_cases task actions
      (λ v. at_most_one state v.atoms ≡ true → value_in (next_state state a) v ≡ unwrap_or (target_on a v) (value_in state v))
      (λ p one. single_value state a p true)
      (λ v group several one. group_value state a app v one (over_at task actions v.atoms group.usable a m) (inside_at task actions v.atoms group.usable a m) several)
      v (variable_at v mv) (fits.single v mv)
