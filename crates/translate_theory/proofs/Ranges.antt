-- The translation is a finite-domain task: its values are in range.
use Rattle.std.proofs.Common.{◌≡◌, ℕ, zero, suc, ◌+◌, ◌<◌, true, false, ◌&&◌, ◌||◌, cond, eqb, List, [], ◌∷◌, ◌++◌, length, Option, Some, None, refl, sym, ap, arith, inl, inr, ⊎_elim, ◌∙◌, append_assoc, length-append, Bool, ne_eqb}
use Rattle.std.specs.Prelude.{All, map, slice_index, IfSome, codes}
use Rattle.std.specs.List.{list_all, list_any, filter_map, enumerate_from, cons_option, position_or_len}
use Rattle.std.specs.Option.{option_map}
use Rattle.std.proofs.lemmas.Bool.{and_parts, or_cases, or_left, or_right, cases_Bool, cond_both, both_ways}
use Rattle.std.proofs.lemmas.List.Elements.{All-nil, All-cons, All-map, Contains-get_or}
use Rattle.std.proofs.lemmas.List.{length-map}
use Rattle.fdr.specs.Tasks.{Operator, IsTask, IsOperator, IsInRange, IsAssignment, ranges, names_variable, are_distinct}
use Rattle.pddl_task.specs.Atoms.{Atom, State, Literal, contains, wants, excludes}
use Rattle.pddl_task.specs.Planning.{PlanningTask, Action, Vocabulary}
use Rattle.translate_theory.specs.Names.{atom_names, atom_text, none_name}
use Rattle.ground_theory.specs.Grounding.{AreListedAtoms, AreListedActions}
use Rattle.mutex_index.specs.Groups.{removes, is_excluded}
use Rattle.mutex_index.specs.Groups.{is_full}
use Rattle.translate_theory.specs.Translations.{Variable, IsGroupVariable, AreVariables, range_of, value_in, condition_on, target_on, effect_on, unless_equal, is_single, facts, operator_of, carried, has_operator, translation, value_names_of}
use Rattle.pddl_task.proofs.Lists.{Mem, filter_mem, mem_from_contains, if_at, all_at, any_at, any_from, position_within, position_below}
use Rattle.translate_theory.proofs.Following.{variable_cases, variable_at}

map_below : (f g : Variable → ℕ) (vs : List Variable) → ((v : Variable) → Mem v vs → f v < g v)
    → (i : ℕ) → i < length (map g vs) → slice_index (map f vs) i < slice_index (map g vs) i
map_below f g [] h i l = absurd (omega arith)
map_below f g (v ∷ vs) h zero l = h v (inl refl)
map_below f g (v ∷ vs) h (suc i) l = map_below f g vs (λ w m. h w (inr m)) i (omega arith)

same_length : (f g : Variable → ℕ) (vs : List Variable) → length (map f vs) ≡ length (map g vs)
same_length f g [] = refl
same_length f g (v ∷ vs) = ap suc (same_length f g vs)

middle : (pre : List ℕ) (x : ℕ) (ys : List ℕ) → slice_index (pre ++ (x ∷ ys)) (length pre) ≡ x
middle [] x ys = refl
middle (z ∷ zs) x ys = middle zs x ys

abbrev IsBelowRange : (Variable → Option ℕ) → Variable → Type 0
IsBelowRange given v = IfSome (given v) (λ x. x < range_of v)

facts_from : (given : Variable → Option ℕ) (vs : List Variable) (pre ranges : List ℕ) (n : ℕ) → n ≡ length pre → ranges ≡ pre ++ map range_of vs
    → ((v : Variable) → Mem v vs → IsBelowRange given v)
    → All (IsInRange ranges) (filter_map (λ e. option_map (λ x. record { variable = e.0; value = x }) (given e.1)) (enumerate_from n vs))
facts_from given [] pre ranges n e s h = All-nil (IsInRange ranges)
facts_from given (v ∷ vs) pre ranges n e s h =
    go (given v) (h v (inl refl))
    (facts_from given vs (pre ++ (range_of v ∷ [])) ranges (n + 1) (omega (arith, e, length-append pre (range_of v ∷ [])))
    (s ∙ sym (append_assoc pre (range_of v ∷ []) (map range_of vs))) (λ w m. h w (inr m)))
  where
    here : slice_index ranges n ≡ range_of v
    here = rw (s, e) (middle pre (range_of v) (map range_of vs))

    exists : n < length ranges
    exists = omega (arith, e, ap length s, length-append pre (range_of v ∷ map range_of vs))

    go : (r : Option ℕ) → IfSome r (λ x. x < range_of v)
        → All (IsInRange ranges) (filter_map (λ e. option_map (λ x. record { variable = e.0; value = x }) (given e.1)) (enumerate_from (n + 1) vs))
        → All (IsInRange ranges) (cons_option (option_map (λ x. record { variable = n; value = x }) r) (filter_map (λ e. option_map (λ x. record { variable = e.0; value = x }) (given e.1)) (enumerate_from (n + 1) vs)))
    go None low rest = rest
    go (Some x) low rest = All-cons (IsInRange ranges) (record { variable = n; value = x }) _ (exists, rw here low) rest

facts_in_range : (given : Variable → Option ℕ) (vs : List Variable) → ((v : Variable) → Mem v vs → IsBelowRange given v) → All (IsInRange (map range_of vs)) (facts given vs)
facts_in_range given vs h = facts_from given vs [] (map range_of vs) 0 refl refl h

-- a fact on a later variable names no earlier one
later_names : (given : Variable → Option ℕ) (vs : List Variable) (n k : ℕ) → k < n
    → names_variable (filter_map (λ e. option_map (λ x. record { variable = e.0; value = x }) (given e.1)) (enumerate_from n vs)) k ≡ false
later_names given [] n k l = refl
later_names given (v ∷ vs) n k l = go (given v) (later_names given vs (n + 1) k (omega arith))
  where
    go : (r : Option ℕ)
        → names_variable (filter_map (λ e. option_map (λ x. record { variable = e.0; value = x }) (given e.1)) (enumerate_from (n + 1) vs)) k ≡ false
        → names_variable (cons_option (option_map (λ x. record { variable = n; value = x }) r) (filter_map (λ e. option_map (λ x. record { variable = e.0; value = x }) (given e.1)) (enumerate_from (n + 1) vs))) k ≡ false
    go None rest = rest
    go (Some x) rest = rw (ne_eqb n k (λ e. absurd (omega (arith, e))), rest)

distinct_from : (given : Variable → Option ℕ) (vs : List Variable) (n : ℕ)
    → are_distinct (filter_map (λ e. option_map (λ x. record { variable = e.0; value = x }) (given e.1)) (enumerate_from n vs)) ≡ true
distinct_from given [] n = refl
distinct_from given (v ∷ vs) n = go (given v) (distinct_from given vs (n + 1))
  where
    go : (r : Option ℕ)
        → are_distinct (filter_map (λ e. option_map (λ x. record { variable = e.0; value = x }) (given e.1)) (enumerate_from (n + 1) vs)) ≡ true
        → are_distinct (cons_option (option_map (λ x. record { variable = n; value = x }) r) (filter_map (λ e. option_map (λ x. record { variable = e.0; value = x }) (given e.1)) (enumerate_from (n + 1) vs))) ≡ true
    go None rest = rest
    go (Some x) rest = rw (later_names given vs (n + 1) n (omega arith), rest)

facts_assign : (given : Variable → Option ℕ) (vs : List Variable) → ((v : Variable) → Mem v vs → IsBelowRange given v) → IsAssignment (map range_of vs) (facts given vs)
facts_assign given vs h = record { in_range = facts_in_range given vs h; distinct = distinct_from given vs 0 }

-- a variable has as many names as values
names_as_values : (names : Vocabulary) (v : Variable) → length (value_names_of names v) ≡ range_of v
names_as_values names v = go v.has_none
  where
    front : (more : List (List ℕ)) → length (map (λ p. codes "Atom " ++ atom_text names p) v.atoms ++ more) ≡ length v.atoms + length more
    front more = omega (arith, length-append (map (λ p. codes "Atom " ++ atom_text names p) v.atoms) more, length-map v.atoms (λ p. codes "Atom " ++ atom_text names p))

    go : (b : Bool) → length (atom_names names v.atoms ++ cond b (none_name names v.atoms ∷ []) []) ≡ cond b (length v.atoms + 1) (length v.atoms)
    go true = front (none_name names v.atoms ∷ [])
    go false = omega (arith, front [])

pub ranges_are : (names : Vocabulary) (vs : List Variable) → map length (map (value_names_of names) vs) ≡ map range_of vs
ranges_are names [] = refl
ranges_are names (v ∷ vs) = rw (names_as_values names v, ranges_are names vs)

-- atoms' values are in range, and the none value where there is one
atom_below : (v : Variable) (n : ℕ) → n < length v.atoms → n < range_of v
atom_below v n l = cond_both v.has_none (length v.atoms + 1) (length v.atoms) (λ r. n < r) (λ e. omega arith) (λ e. l)

none_below : (v : Variable) → v.has_none ≡ true → length v.atoms < range_of v
none_below v e = rw e (omega arith)

kept_below : (target condition : Option ℕ) (n : ℕ) → IfSome target (λ x. x < n) → IfSome (unless_equal target condition) (λ x. x < n)
kept_below None c n h = tt
kept_below (Some x) None n h = h
kept_below (Some x) (Some y) n h = cond_both (eqb x y) None (Some x) (λ r. IfSome r (λ z. z < n)) (λ e. tt) (λ e. h)

module _ (task : PlanningTask) (atoms : List Atom) (actions : List Action) (variables : List Variable)
    (listed : AreListedAtoms task atoms) (all : AreListedActions task atoms actions) (ok : AreVariables task atoms actions variables) where
  value_below : (state : State) (v : Variable) → (v.has_none ≡ false → list_any state v.atoms ≡ true) → value_in state v < range_of v
  value_below state v some =
      cond_both v.has_none (length v.atoms + 1) (length v.atoms) (λ r. value_in state v < r)
      (λ e. omega (arith, position_within state v.atoms)) (λ e. position_below state v.atoms (some e))

  -- a group without the none value is full
  full_group : (v : Variable) → IsGroupVariable task actions v → v.has_none ≡ false → is_full task actions v.atoms ≡ true
  full_group v group e = ⊎_elim (λ k. absurd (both_ways v.has_none e k)) (λ k. k) (or_cases v.has_none (is_full task actions v.atoms) group.kind)

  initially_some : (v : Variable) → Mem v variables → v.has_none ≡ false → list_any (contains task.initial) v.atoms ≡ true
  initially_some v m =
      variable_cases task actions (λ v. v.has_none ≡ false → list_any (contains task.initial) v.atoms ≡ true)
      (λ p e. cc e)
      (λ v group several e. (and_parts (list_any (contains task.initial) v.atoms) _ (full_group v group e)).0)
      v (variable_at task atoms actions variables listed all ok v m)

  condition_below : (literals : List Literal) → ((p : Atom) → excludes literals p ≡ true → is_excluded task actions p ≡ true)
      → (v : Variable) → Mem v variables → IsBelowRange (condition_on literals) v
  condition_below literals known v m =
      variable_cases task actions (IsBelowRange (condition_on literals))
      (λ p. go (record { atoms = p ∷ []; has_none = true }) (λ e. omega arith))
      (λ v group several. go v (λ e.
      let p = any_at (excludes literals) v.atoms e in
      absurd (both_ways _ group.positive (any_from (is_excluded task actions) v.atoms p.0 p.1 (known p.0 p.2)))))
      v (variable_at task atoms actions variables listed all ok v m)
    where
      go : (v : Variable) → (list_any (excludes literals) v.atoms ≡ true → length v.atoms < range_of v) → IsBelowRange (condition_on literals) v
      go v none =
          cond_both (list_any (wants literals) v.atoms) (Some (position_or_len (wants literals) v.atoms)) _ (λ r. IfSome r (λ x. x < range_of v))
          (λ e. atom_below v (position_or_len (wants literals) v.atoms) (position_below (wants literals) v.atoms e))
          (λ k. cond_both (list_any (excludes literals) v.atoms) (Some (length v.atoms)) None (λ r. IfSome r (λ x. x < range_of v)) (λ e. none e) (λ e. tt))

  target_below : (a : Action) → Mem a actions → (v : Variable) → Mem v variables → IsBelowRange (target_on a) v
  target_below a ma v m =
      variable_cases task actions (IsBelowRange (target_on a))
      (λ p. go (record { atoms = p ∷ []; has_none = true }) (λ none gone. omega arith))
      (λ v group several. go v (λ none gone. ⊎_elim (none_below v) (λ e.
      let p = any_at (λ p. removes a p && (wants a.precondition p || is_single v.atoms)) v.atoms gone in
      let parts = and_parts (list_any (contains task.initial) v.atoms) (list_all (λ b. cond (list_any (removes b) v.atoms) (list_any (contains b.adds) v.atoms) true) actions) (full_group v group e) in
      let some = if_at _ _ (all_at (λ (b : Action). cond (list_any (removes b) v.atoms) (list_any (contains b.adds) v.atoms) true) actions a parts.1 ma)
      (any_from (removes a) v.atoms p.0 p.1 (and_parts (removes a p.0) _ p.2).0) in
      absurd (both_ways _ none some)) (cases_Bool v.has_none)))
      v (variable_at task atoms actions variables listed all ok v m)
    where
      go : (v : Variable)
          → (list_any (contains a.adds) v.atoms ≡ false → list_any (λ p. removes a p && (wants a.precondition p || is_single v.atoms)) v.atoms ≡ true → length v.atoms < range_of v)
          → IsBelowRange (target_on a) v
      go v none =
          cond_both (list_any (contains a.adds) v.atoms) (Some (position_or_len (contains a.adds) v.atoms)) _ (λ r. IfSome r (λ x. x < range_of v))
          (λ e. atom_below v (position_or_len (contains a.adds) v.atoms) (position_below (contains a.adds) v.atoms e))
          (λ k. cond_both (list_any (λ p. removes a p && (wants a.precondition p || is_single v.atoms)) v.atoms) (Some (length v.atoms)) None (λ r. IfSome r (λ x. x < range_of v)) (none k) (λ e. tt))

  -- what holds of each action that has an operator holds of each operator
  of_operators : (P : Operator → Type 0) → ((a : Action) → Mem a actions → P (operator_of task.vocabulary variables a)) → All P (map (operator_of task.vocabulary variables) (carried variables actions))
  of_operators P h =
      All-map P (operator_of task.vocabulary variables) (carried variables actions)
      (λ k d l. h _ (filter_mem (has_operator variables) actions _ (mem_from_contains _ _ (Contains-get_or (carried variables actions) k d l))).0)

  operator_fits : (a : Action) → Mem a actions → IsOperator (map range_of variables) (operator_of task.vocabulary variables a)
  operator_fits a m =
      record {
        precondition = facts_assign (condition_on a.precondition) variables
            (condition_below a.precondition (λ p x. or_left _ _ (any_from (λ (b : Action). excludes b.precondition p) actions a m x)));
        effect = facts_assign (effect_on a) variables (λ v mv. kept_below (target_on a v) (condition_on a.precondition v) (range_of v) (target_below a m v mv));
      }

  pub translation_is_task : IsTask (translation task variables actions)
  translation_is_task =
      record {
        initial = rw (ranges_are task.vocabulary variables) (record {
          as_long = same_length (value_in (contains task.initial)) range_of variables;
          in_range = map_below (value_in (contains task.initial)) range_of variables (λ v m. value_below (contains task.initial) v (initially_some v m));
        });
        goal = rw (ranges_are task.vocabulary variables) (facts_assign (condition_on task.goal) variables (condition_below task.goal (λ p x. or_right _ _ x)));
        operators = rw (ranges_are task.vocabulary variables) (of_operators (IsOperator (map range_of variables)) operator_fits);
      }
