-- The value of a variable after an action is the one that the action leaves.
use Rattle.std.proofs.Common.{◌≡◌, Bool, true, false, ◌&&◌, ◌||◌, not, [], ◌∷◌, length, Some, None, refl, inl, inr, ⊎_elim}
use Rattle.std.specs.Prelude.{unwrap_or}
use Rattle.std.specs.List.{list_any}
use Rattle.std.proofs.lemmas.Bool.{and_parts, and_from, or_cases, or_left, or_right, cond_both, false_from_ne_true, both_ways}
use Rattle.pddl_task.specs.Atoms.{Atom, State, contains, at_most_one, wants}
use Rattle.pddl_task.specs.Planning.{Action}
use Rattle.pddl_task.specs.Plans.{is_applicable, next_state}
use Rattle.mutex_index.specs.Groups.{removes}
use Rattle.mutex_index.specs.Groups.{takes_over, starts_inside}
use Rattle.translate_theory.specs.Translations.{Variable, value_in, target_on, is_single}
use Rattle.pddl_task.proofs.Lists.{Mem, bool_same, if_at, any_at, any_from, none_at, same_position, position_none}
use Rattle.pddl_task.proofs.AtomLaws.{one_of, wanted_holds}
use Rattle.ground_theory.proofs.Runs.{next_was}
use Rattle.mutex_index.proofs.GroupLaws.{next_added, next_kept, after_adding}

-- the value after a step is the one that the action leaves, if what is removed or kept is as a group or a single atom has it
value_moves : (state : State) (a : Action) (v : Variable)
    → (list_any (contains a.adds) v.atoms ≡ true → (q : Atom) → Mem q v.atoms → next_state state a q ≡ true → contains a.adds q ≡ true)
    → (list_any (λ p. removes a p && (wants a.precondition p || is_single v.atoms)) v.atoms ≡ true → (q : Atom) → Mem q v.atoms → state q ≡ true → contains a.deletes q ≡ true)
    → (list_any (contains a.adds) v.atoms ≡ false → list_any (λ p. removes a p && (wants a.precondition p || is_single v.atoms)) v.atoms ≡ false
    → (q : Atom) → Mem q v.atoms → state q ≡ true → removes a q ≡ false)
    → value_in (next_state state a) v ≡ unwrap_or (target_on a v) (value_in state v)
value_moves state a v adding removing keeping =
    cond_both (list_any (contains a.adds) v.atoms) _ _ (λ t. value_in (next_state state a) v ≡ unwrap_or t (value_in state v))
    (λ some. same_position (next_state state a) (contains a.adds) v.atoms
    (λ q mq. bool_same (next_state state a q) (contains a.adds q) (adding some q mq) (next_added state a q)))
    (λ none. cond_both (list_any (λ p. removes a p && (wants a.precondition p || is_single v.atoms)) v.atoms) (Some (length v.atoms)) None
    (λ t. value_in (next_state state a) v ≡ unwrap_or t (value_in state v))
    (λ gone. position_none (next_state state a) v.atoms (λ q mq. false_from_ne_true (next_state state a q) (λ h.
    ⊎_elim (both_ways (contains a.adds q) (none_at (contains a.adds) v.atoms q none mq))
    (λ e. both_ways (contains a.deletes q) e.1 (removing gone q mq e.0))
    (next_was state a q h))))
    (λ stays. same_position (next_state state a) state v.atoms (λ q mq. bool_same (next_state state a q) (state q)
    (λ h. ⊎_elim (λ e. absurd (both_ways (contains a.adds q) (none_at (contains a.adds) v.atoms q none mq) e)) (λ e. e.0) (next_was state a q h))
    (λ h. next_kept state a q h (keeping none stays q mq h)))))

-- a usable group of several atoms
pub group_value : (state : State) (a : Action) → is_applicable state a ≡ true → (v : Variable) → at_most_one state v.atoms ≡ true
    → takes_over v.atoms a ≡ true → starts_inside v.atoms a ≡ true → is_single v.atoms ≡ false
    → value_in (next_state state a) v ≡ unwrap_or (target_on a v) (value_in state v)
group_value state a app v one over inside several =
    value_moves state a v (after_adding state a app v.atoms one over) removing keeping
  where
    removing : list_any (λ p. removes a p && (wants a.precondition p || is_single v.atoms)) v.atoms ≡ true → (q : Atom) → Mem q v.atoms → state q ≡ true → contains a.deletes q ≡ true
    removing gone q mq sq =
        let p = any_at (λ p. removes a p && (wants a.precondition p || is_single v.atoms)) v.atoms gone in
        let parts = and_parts (removes a p.0) (wants a.precondition p.0 || is_single v.atoms) p.2 in
        let deleted = (and_parts (contains a.deletes p.0) (not (contains a.adds p.0)) parts.0).0 in
        ⊎_elim
        (λ w. let same : q ≡ p.0 = one_of state v.atoms one q p.0 mq p.1 sq (wanted_holds a.precondition state p.0 app w) in rw same deleted)
        (λ s. absurd (both_ways (is_single v.atoms) several s))
        (or_cases (wants a.precondition p.0) (is_single v.atoms) parts.1)

    keeping : list_any (contains a.adds) v.atoms ≡ false → list_any (λ p. removes a p && (wants a.precondition p || is_single v.atoms)) v.atoms ≡ false
        → (q : Atom) → Mem q v.atoms → state q ≡ true → removes a q ≡ false
    keeping none stays q mq sq = false_from_ne_true (removes a q) (λ e.
        let some = if_at _ _ inside (any_from (removes a) v.atoms q mq e) in
        ⊎_elim
        (both_ways (list_any (contains a.adds) v.atoms) none)
        (λ w. let r = any_at (wants a.precondition) v.atoms w in
        let same : q ≡ r.0 = one_of state v.atoms one q r.0 mq r.1 sq (wanted_holds a.precondition state r.0 app r.2) in
        let wanted : wants a.precondition q ≡ true = rw same r.2 in
        both_ways _ stays (any_from (λ p. removes a p && (wants a.precondition p || is_single v.atoms)) v.atoms q mq
        (and_from _ _ e (or_left _ _ wanted))))
        (or_cases (list_any (contains a.adds) v.atoms) (list_any (wants a.precondition) v.atoms) some))

-- a variable of one atom
pub single_value : (state : State) (a : Action) (p : Atom) (b : Bool)
    → value_in (next_state state a) (record { atoms = p ∷ []; has_none = b }) ≡ unwrap_or (target_on a (record { atoms = p ∷ []; has_none = b })) (value_in state (record { atoms = p ∷ []; has_none = b }))
single_value state a p b = value_moves state a (record { atoms = p ∷ []; has_none = b }) adding removing keeping
  where
    only : (q : Atom) → Mem q (p ∷ []) → p ≡ q
    only q (inl e) = e
    only q (inr m) = absurd m

    adding : list_any (contains a.adds) (p ∷ []) ≡ true → (q : Atom) → Mem q (p ∷ []) → next_state state a q ≡ true → contains a.adds q ≡ true
    adding some q mq h =
        let r = any_at (contains a.adds) (p ∷ []) some in
        rw (← only q mq, only r.0 r.1) r.2

    removing : list_any (λ r. removes a r && (wants a.precondition r || true)) (p ∷ []) ≡ true → (q : Atom) → Mem q (p ∷ []) → state q ≡ true → contains a.deletes q ≡ true
    removing gone q mq sq =
        let r = any_at (λ r. removes a r && (wants a.precondition r || true)) (p ∷ []) gone in
        rw (← only q mq, only r.0 r.1) (and_parts (contains a.deletes r.0) _ (and_parts (removes a r.0) _ r.2).0).0

    keeping : list_any (contains a.adds) (p ∷ []) ≡ false → list_any (λ r. removes a r && (wants a.precondition r || true)) (p ∷ []) ≡ false
        → (q : Atom) → Mem q (p ∷ []) → state q ≡ true → removes a q ≡ false
    keeping none stays q mq sq = false_from_ne_true (removes a q) (λ e.
        both_ways _ stays (any_from (λ r. removes a r && (wants a.precondition r || true)) (p ∷ []) q mq (and_from _ _ e (or_right _ _ refl))))
