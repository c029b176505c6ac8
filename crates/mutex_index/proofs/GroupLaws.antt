-- A usable group keeps at most one true atom along runs of the actions, a full one keeps one, and a constant atom stays true.
use Rattle.std.proofs.Common.{◌≡◌, Bool, true, false, ◌&&◌, ◌||◌, not, cond, List, [], ◌∷◌, Some, None, refl, ⊎_elim}
use Rattle.std.specs.Prelude.{All, Contains}
use Rattle.std.specs.List.{list_all, list_any}
use Rattle.std.proofs.lemmas.Bool.{and_parts, or_cases, or_left, cases_Bool, both_ways, true≢false, not-true}
use Rattle.std.proofs.lemmas.List.Elements.{All-head, All-tail}
use Rattle.pddl_task.specs.Atoms.{Atom, State, same_atom, contains, at_most_one, wants}
use Rattle.pddl_task.specs.Planning.{PlanningTask, Action}
use Rattle.pddl_task.specs.Plans.{is_applicable, next_state, state_after}
use Rattle.pddl_task.proofs.Lists.{Mem, mem_from_contains, if_at, all_at, any_at, any_from, none_at}
use Rattle.pddl_task.proofs.AtomLaws.{same_atom_true, one_of, one_less, wanted_holds}
use Rattle.ground_theory.proofs.Runs.{next_was}
use Rattle.mutex_index.specs.Groups.{removes, is_excluded, is_constant, takes_over, starts_inside, is_group, is_usable, is_full}

kept : (x d s : Bool) → s ≡ true → (d && not x) ≡ false → (x || (s && not d)) ≡ true
kept true d s e h = refl
kept false true s e h = absurd (true≢false h)
kept false false s e h = rw e

-- an atom that is added is true
pub next_added : (state : State) (a : Action) (p : Atom) → contains a.adds p ≡ true → next_state state a p ≡ true
next_added state a p h = or_left _ _ h

-- an atom that is true and not removed stays true
pub next_kept : (state : State) (a : Action) (p : Atom) → state p ≡ true → removes a p ≡ false → next_state state a p ≡ true
next_kept state a p h e = kept (contains a.adds p) (contains a.deletes p) (state p) h e

-- what each step by one of the actions keeps holds at the end
kept_by : (actions : List Action) (P : State → Type 0)
    → ((s : State) (a : Action) → P s → Mem a actions → is_applicable s a ≡ true → P (next_state s a))
    → (plan : List Action) (s t : State) → P s → All (Contains actions) plan → state_after s plan ≡ Some t → P t
kept_by actions P step [] s t here listed run = let same : s ≡ t = cc run in rw same at here
kept_by actions P step (a ∷ plan) s t here listed run = go (is_applicable s a) refl run (kept_by actions P step plan (next_state s a) t)
  where
    go : (b : Bool) → is_applicable s a ≡ b → cond b (state_after (next_state s a) plan) None ≡ Some t
        → (P (next_state s a) → All (Contains actions) plan → state_after (next_state s a) plan ≡ Some t → P t) → P t
    go true e run ih =
        ih (step s a here (mem_from_contains actions a (All-head (Contains actions) a plan listed)) e) (All-tail (Contains actions) a plan listed) run
    go false e run ih = cc run

-- a full group keeps a true atom
pub some_after : (state : State) (a : Action) (g : List Atom)
    → cond (list_any (removes a) g) (list_any (contains a.adds) g) true ≡ true → list_any state g ≡ true → list_any (next_state state a) g ≡ true
some_after state a g full some =
    let p = any_at state g some in
    ⊎_elim
    (λ e. let q = any_at (contains a.adds) g (if_at _ _ full (any_from (removes a) g p.0 p.1 e)) in
    any_from (next_state state a) g q.0 q.1 (next_added state a q.0 q.2))
    (λ e. any_from (next_state state a) g p.0 p.1 (next_kept state a p.0 p.2 e))
    (cases_Bool (removes a p.0))

module _ (state : State) (a : Action) (app : is_applicable state a ≡ true) (g : List Atom) (one : at_most_one state g ≡ true) where
  -- where it adds one, what is true after the step is what it adds
  pub after_adding : takes_over g a ≡ true → list_any (contains a.adds) g ≡ true → (q : Atom) → Mem q g → next_state state a q ≡ true → contains a.adds q ≡ true
  after_adding over some q mq h = ⊎_elim (λ e. e) (λ e. go e.0 e.1) (next_was state a q h)
    where
      go : state q ≡ true → contains a.deletes q ≡ false → contains a.adds q ≡ true
      go sq dq =
          let p = any_at (contains a.adds) g some in
          let r = any_at (λ r. wants a.precondition r && (same_atom r p.0 || removes a r)) g
          (if_at (contains a.adds p.0) _
          (all_at (λ p. cond (contains a.adds p) (list_any (λ r. wants a.precondition r && (same_atom r p || removes a r)) g) true) g p.0 over p.1) p.2) in
          let parts = and_parts (wants a.precondition r.0) (same_atom r.0 p.0 || removes a r.0) r.2 in
          let same : q ≡ r.0 = one_of state g one q r.0 mq r.1 sq (wanted_holds a.precondition state r.0 app parts.0) in
          ⊎_elim
          (λ (e : same_atom r.0 p.0 ≡ true). rw (same, same_atom_true r.0 p.0 e) p.2)
          (λ (e : removes a r.0 ≡ true). absurd (both_ways (contains a.deletes q) dq (rw same (and_parts (contains a.deletes r.0) (not (contains a.adds r.0)) e).0)))
          (or_cases (same_atom r.0 p.0) (removes a r.0) parts.1)

  -- where it adds none, what is true was true
  pub after_removing : list_any (contains a.adds) g ≡ false → (q : Atom) → Mem q g → next_state state a q ≡ true → state q ≡ true
  after_removing none q mq h =
      ⊎_elim (λ e. absurd (both_ways (contains a.adds q) (none_at (contains a.adds) g q none mq) e)) (λ e. e.0) (next_was state a q h)

  pub one_after : at_most_one (contains a.adds) g ≡ true → takes_over g a ≡ true → at_most_one (next_state state a) g ≡ true
  one_after adds over =
      ⊎_elim
      (λ some. one_less (contains a.adds) (next_state state a) g adds (after_adding over some))
      (λ none. one_less state (next_state state a) g one (after_removing none))
      (cases_Bool (list_any (contains a.adds) g))

module _ (task : PlanningTask) (actions : List Action) (plan : List Action) (state : State) (listed : All (Contains actions) plan)
    (run : state_after (contains task.initial) plan ≡ Some state) where
  pub one_along : (g : List Atom) → is_usable task actions g ≡ true → at_most_one state g ≡ true
  one_along g usable =
      let group = and_parts (is_group task actions g) (list_all (starts_inside g) actions) usable in
      let parts = and_parts (at_most_one (contains task.initial) g) (list_all (λ a. at_most_one (contains a.adds) g && takes_over g a) actions) group.0 in
      kept_by actions (λ s. at_most_one s g ≡ true)
      (λ s a one m app.
      let at_a = and_parts (at_most_one (contains a.adds) g) (takes_over g a)
      (all_at (λ (b : Action). at_most_one (contains b.adds) g && takes_over g b) actions a parts.1 m) in
      one_after s a app g one at_a.0 at_a.1)
      plan (contains task.initial) state parts.0 listed run

  pub some_along : (g : List Atom) → is_full task actions g ≡ true → list_any state g ≡ true
  some_along g full =
      let parts = and_parts (list_any (contains task.initial) g) (list_all (λ a. cond (list_any (removes a) g) (list_any (contains a.adds) g) true) actions) full in
      kept_by actions (λ s. list_any s g ≡ true)
      (λ s a some m app. some_after s a g (all_at (λ (b : Action). cond (list_any (removes b) g) (list_any (contains b.adds) g) true) actions a parts.1 m) some)
      plan (contains task.initial) state parts.0 listed run

  pub constant_along : (p : Atom) → is_constant task actions p ≡ true → state p ≡ true
  constant_along p constant =
      let stays = and_parts (contains task.initial p && not (list_any (λ a. removes a p) actions)) (not (is_excluded task actions p)) constant in
      let parts = and_parts (contains task.initial p) (not (list_any (λ a. removes a p) actions)) stays.0 in
      kept_by actions (λ s. s p ≡ true)
      (λ s a here m app. next_kept s a p here (none_at (λ (b : Action). removes b p) actions a (not-true (list_any (λ a. removes a p) actions) parts.1) m))
      plan (contains task.initial) state parts.0 listed run
