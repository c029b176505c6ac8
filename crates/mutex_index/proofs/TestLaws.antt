-- The tests of an index, which look at the actions that touch a group, say what the definitions say of all actions.
use Rattle.std.proofs.Common.{◌≡◌, ℕ, ◌<◌, Bool, true, false, ◌&&◌, ◌||◌, not, cond, List, [], ◌∷◌, length, get_or, map, Option, Some, None, refl, sym, ap, ◌∙◌, inl, inr, ⊎_elim, eqb, subst}
use Rattle.std.specs.Prelude.{slice_get, slice_index_or, count_by, nat_le, IfSome}
use Rattle.std.specs.List.{list_all, list_any, cons_option}
use Rattle.std.specs.List.Sorted.{IsStrictlyIncreasing}
use Rattle.std.proofs.lemmas.Bool.{and_parts, and_from, or_cases, or_left, or_right, eqb-true, eq-eqb, not-true, not_from_false, false_from_ne_true, both_ways, cases_Bool, le-leb, leb-true}
use Rattle.std.proofs.lemmas.List.Kept.{AllPairs-from_increasing}
use Rattle.std.proofs.Math.Dec.{eqb-suc-zero}
use Rattle.std.proofs.lemmas.Option.{slice_get_within}
use Rattle.pddl_task.specs.Atoms.{Atom, State, same_atom, contains, at_most_one, wants, excludes}
use Rattle.pddl_task.specs.Planning.{PlanningTask, Action}
use Rattle.pddl_task.proofs.Lists.{Mem, bool_same, if_at, if_from, mem_get, get_of_mem, all_at, all_from, any_at, any_from}
use Rattle.pddl_task.proofs.AtomLaws.{same_atom_true, same_atom_self, one_of, one_from}
use Rattle.mutex_index.specs.declared.tables.Tables.{Tables}
use Rattle.mutex_index.specs.Groups.{removes, is_excluded, is_constant, takes_over, starts_inside, is_usable, is_full}
use Rattle.index_rows.specs.Numbers.{has, row, IsTranspose}
use Rattle.mutex_index.specs.Places.{atoms_at, places_of, literal_places, removed_places, adds_alone, gives_way, meets}
use Rattle.mutex_index.specs.Tables.{AreTables, takes_over_at, is_taken_over, starts_inside_at, is_left_inside, is_refilled, is_usable_by, is_full_by, is_constant_by}
use Rattle.index_rows.proofs.NumberLaws.{has_mem, mem_has}
use Rattle.mutex_index.proofs.IndexLaws.{all_both, all_if_any, all_same, any_same, counted_one, one_counted, row_of, action_at, get_of_within, one_place, has_places, has_wanted_places, has_excluded_places, has_removed_places}

-- the atoms at places

pub mem_group : (atoms : List Atom) (places : List ℕ) (p : ℕ) (x : Atom) → Mem p places → slice_get atoms p ≡ Some x → Mem x (atoms_at atoms places)
mem_group atoms [] p x m e = absurd m
mem_group atoms (q ∷ places) p x m e = go (slice_get atoms q) refl m (λ n. mem_group atoms places p x n e)
  where
    go : (o : Option Atom) → slice_get atoms q ≡ o → Mem p (q ∷ places) → (Mem p places → Mem x (atoms_at atoms places)) → Mem x (cons_option o (atoms_at atoms places))
    go None f (inl s) ih = let w : slice_get atoms q ≡ Some x = rw s e in cc
    go None f (inr n) ih = ih n
    go (Some y) f (inl s) ih = let w : slice_get atoms q ≡ Some x = rw s e in inl (cc)
    go (Some y) f (inr n) ih = inr (ih n)

pub group_mem : (atoms : List Atom) (places : List ℕ) (x : Atom) → Mem x (atoms_at atoms places) → (p : ℕ) × Mem p places × (slice_get atoms p ≡ Some x)
group_mem atoms [] x m = absurd m
group_mem atoms (q ∷ places) x m = go (slice_get atoms q) refl m (group_mem atoms places x)
  where
    go : (o : Option Atom) → slice_get atoms q ≡ o → Mem x (cons_option o (atoms_at atoms places)) → (Mem x (atoms_at atoms places) → (p : ℕ) × Mem p places × (slice_get atoms p ≡ Some x))
        → (p : ℕ) × Mem p (q ∷ places) × (slice_get atoms p ≡ Some x)
    go None f n ih = let w = ih n in (w.0, inr w.1, w.2)
    go (Some y) f (inl s) ih = (q, inl refl, f ∙ ap Some s)
    go (Some y) f (inr n) ih = let w = ih n in (w.0, inr w.1, w.2)

module _ (task : PlanningTask) (atoms : List Atom) (actions : List Action) (tables : Tables) (ok : AreTables task atoms actions tables) where
  -- a row of numbers tells of the atoms at places what the test does
  Tells : List ℕ → State → Type 0
  Tells numbers test = (p : ℕ) (x : Atom) → slice_get atoms p ≡ Some x → has numbers p ≡ test x

  adds_row : (k : ℕ) (a : Action) → slice_get actions k ≡ Some a → (p : ℕ) (x : Atom) → slice_get atoms p ≡ Some x → has (row tables.added k) p ≡ contains a.adds x
  adds_row k a e p x h =
      ap (λ (rows : List (List ℕ)). has (slice_index_or rows k []) p) ok.added
      ∙ ap (λ (r : List ℕ). has r p) (row_of (λ b. places_of atoms b.adds) actions k a e)
      ∙ has_places atoms ok.distinct p x h a.adds

  wants_row : (k : ℕ) (a : Action) → slice_get actions k ≡ Some a → (p : ℕ) (x : Atom) → slice_get atoms p ≡ Some x → has (row tables.wanted k) p ≡ wants a.precondition x
  wants_row k a e p x h =
      ap (λ (rows : List (List ℕ)). has (slice_index_or rows k []) p) ok.wanted
      ∙ ap (λ (r : List ℕ). has r p) (row_of (λ b. literal_places atoms true b.precondition) actions k a e)
      ∙ has_wanted_places atoms ok.distinct p x h a.precondition

  removes_row : (k : ℕ) (a : Action) → slice_get actions k ≡ Some a → (p : ℕ) (x : Atom) → slice_get atoms p ≡ Some x → has (row tables.removed k) p ≡ removes a x
  removes_row k a e p x h =
      ap (λ (rows : List (List ℕ)). has (slice_index_or rows k []) p) ok.removed
      ∙ ap (λ (r : List ℕ). has r p) (row_of (λ b. removed_places atoms b.adds b.deletes) actions k a e)
      ∙ has_removed_places atoms ok.distinct p x h a

  module _ (group : List ℕ) (within : (p : ℕ) → Mem p group → p < length atoms) where
    atom_of : (p : ℕ) → Mem p group → (x : Atom) × (slice_get atoms p ≡ Some x)
    atom_of p m = get_of_within atoms p (within p m)

    meets_is : (numbers : List ℕ) (test : State) → ((p : ℕ) (x : Atom) → slice_get atoms p ≡ Some x → has numbers p ≡ test x)
        → meets group numbers ≡ list_any test (atoms_at atoms group)
    meets_is numbers test tells = bool_same (meets group numbers) (list_any test (atoms_at atoms group))
        (λ h. let w = any_at (has group) numbers h in
        let m = has_mem group w.0 w.2 in
        let x = atom_of w.0 m in
        any_from test (atoms_at atoms group) x.0 (mem_group atoms group w.0 x.0 m x.1) (sym (tells w.0 x.0 x.1) ∙ mem_has numbers w.0 w.1))
        (λ h. let w = any_at test (atoms_at atoms group) h in
        let v = group_mem atoms group w.0 w.1 in
        any_from (has group) numbers v.0 (has_mem numbers v.0 (tells v.0 w.0 v.2 ∙ w.2)) (mem_has group v.0 v.1))

    alone_is : (numbers : List ℕ) (test : State) → ((p : ℕ) (x : Atom) → slice_get atoms p ≡ Some x → has numbers p ≡ test x)
        → (p : ℕ) (x : Atom) → slice_get atoms p ≡ Some x
        → adds_alone group p numbers ≡ list_all (λ y. cond (test y) (same_atom x y) true) (atoms_at atoms group)
    alone_is numbers test tells p x e = bool_same (adds_alone group p numbers) (list_all (λ y. cond (test y) (same_atom x y) true) (atoms_at atoms group))
        (λ h. all_from (λ y. cond (test y) (same_atom x y) true) (atoms_at atoms group) (λ y my. if_from (test y) (same_atom x y) (λ ty.
        let v = group_mem atoms group y my in
        let m = has_mem numbers v.0 (tells v.0 y v.2 ∙ ty) in
        ⊎_elim
        (λ (s : eqb v.0 p ≡ true). let same : v.0 ≡ p = eqb-true v.0 p s in
        let there : slice_get atoms p ≡ Some y = subst (λ n. slice_get atoms n ≡ Some y) same v.2 in
        let both : x ≡ y = cc in
        rw both (same_atom_self y))
        (λ (s : not (has group v.0) ≡ true). absurd (both_ways (has group v.0) (not-true (has group v.0) s) (mem_has group v.0 v.1)))
        (or_cases (eqb v.0 p) (not (has group v.0)) (all_at (λ q. eqb q p || not (has group q)) numbers v.0 h m)))))
        (λ h. all_from (λ q. eqb q p || not (has group q)) numbers (λ q mq.
        ⊎_elim
        (λ (s : has group q ≡ true).
        let m = has_mem group q s in
        let y = atom_of q m in
        let ty : test y.0 ≡ true = sym (tells q y.0 y.1) ∙ mem_has numbers q mq in
        let same : x ≡ y.0 = same_atom_true x y.0 (if_at (test y.0) (same_atom x y.0)
        (all_at (λ y. cond (test y) (same_atom x y) true) (atoms_at atoms group) y.0 h (mem_group atoms group q y.0 m y.1)) ty) in
        let one : q ≡ p = one_place atoms ok.distinct q p x (y.1 ∙ ap Some (sym same)) e in
        or_left (eqb q p) (not (has group q)) (eq-eqb q p one))
        (λ (s : has group q ≡ false). or_right (eqb q p) (not (has group q)) (not_from_false (has group q) s))
        (cases_Bool (has group q))))

    gives_is : (wanted removed : List ℕ) (wish gone : State)
        → ((p : ℕ) (x : Atom) → slice_get atoms p ≡ Some x → has wanted p ≡ wish x)
        → ((p : ℕ) (x : Atom) → slice_get atoms p ≡ Some x → has removed p ≡ gone x)
        → (p : ℕ) (x : Atom) → slice_get atoms p ≡ Some x
        → gives_way group p wanted removed ≡ list_any (λ r. wish r && (same_atom r x || gone r)) (atoms_at atoms group)
    gives_is wanted removed wish gone tells goes p x e =
        bool_same (gives_way group p wanted removed) (list_any (λ r. wish r && (same_atom r x || gone r)) (atoms_at atoms group))
        (λ h. let w = any_at (λ r. has group r && (eqb r p || has removed r)) wanted h in
        let parts = and_parts (has group w.0) (eqb w.0 p || has removed w.0) w.2 in
        let m = has_mem group w.0 parts.0 in
        let y = atom_of w.0 m in
        any_from (λ r. wish r && (same_atom r x || gone r)) (atoms_at atoms group) y.0 (mem_group atoms group w.0 y.0 m y.1)
        (and_from (wish y.0) (same_atom y.0 x || gone y.0) (sym (tells w.0 y.0 y.1) ∙ mem_has wanted w.0 w.1)
        (⊎_elim
        (λ (s : eqb w.0 p ≡ true). let same : w.0 ≡ p = eqb-true w.0 p s in
        let there : slice_get atoms p ≡ Some y.0 = subst (λ n. slice_get atoms n ≡ Some y.0) same y.1 in
        let both : y.0 ≡ x = cc in
        or_left (same_atom y.0 x) (gone y.0) (rw both (same_atom_self x)))
        (λ (s : has removed w.0 ≡ true). or_right (same_atom y.0 x) (gone y.0) (sym (goes w.0 y.0 y.1) ∙ s))
        (or_cases (eqb w.0 p) (has removed w.0) parts.1))))
        (λ h. let w = any_at (λ r. wish r && (same_atom r x || gone r)) (atoms_at atoms group) h in
        let parts = and_parts (wish w.0) (same_atom w.0 x || gone w.0) w.2 in
        let v = group_mem atoms group w.0 w.1 in
        any_from (λ r. has group r && (eqb r p || has removed r)) wanted v.0 (has_mem wanted v.0 (tells v.0 w.0 v.2 ∙ parts.0))
        (and_from (has group v.0) (eqb v.0 p || has removed v.0) (mem_has group v.0 v.1)
        (⊎_elim
        (λ (s : same_atom w.0 x ≡ true). let same : w.0 ≡ x = same_atom_true w.0 x s in
        let one : v.0 ≡ p = one_place atoms ok.distinct v.0 p x (v.2 ∙ ap Some same) e in
        or_left (eqb v.0 p) (has removed v.0) (eq-eqb v.0 p one))
        (λ (s : gone w.0 ≡ true). or_right (eqb v.0 p) (has removed v.0) (goes v.0 w.0 v.2 ∙ s))
        (or_cases (same_atom w.0 x) (gone w.0) parts.1))))

    -- a test of each place and each action in its row is one of all actions and the atoms that they touch
    by_columns : (rows columns : List (List ℕ)) (f : Action → List ℕ) → rows ≡ map f actions → IsTranspose (length atoms) rows columns
        → (touch : Action → State) → ((a : Action) (p : ℕ) (x : Atom) → slice_get atoms p ≡ Some x → has (f a) p ≡ touch a x)
        → (t : ℕ → ℕ → Bool) (T : Action → State)
        → ((k : ℕ) (a : Action) → slice_get actions k ≡ Some a → (p : ℕ) (x : Atom) → slice_get atoms p ≡ Some x → t p k ≡ T a x)
        → list_all (λ p. list_all (t p) (row columns p)) group ≡ list_all (λ a. list_all (λ x. cond (touch a x) (T a x) true) (atoms_at atoms group)) actions
    by_columns rows columns f are across touch touches t T same = bool_same
        (list_all (λ p. list_all (t p) (row columns p)) group)
        (list_all (λ a. list_all (λ x. cond (touch a x) (T a x) true) (atoms_at atoms group)) actions)
        (λ h. all_from (λ a. list_all (λ x. cond (touch a x) (T a x) true) (atoms_at atoms group)) actions (λ a ma.
        all_from (λ x. cond (touch a x) (T a x) true) (atoms_at atoms group) (λ x mx. if_from (touch a x) (T a x) (λ tx.
        let k = get_of_mem actions a ma in
        let v = group_mem atoms group x mx in
        let here : has (row columns v.0) k.0 ≡ true = across v.0 k.0 (within v.0 v.1)
        ∙ ap (λ (rs : List (List ℕ)). has (slice_index_or rs k.0 []) v.0) are
        ∙ ap (λ (r : List ℕ). has r v.0) (row_of f actions k.0 a k.1)
        ∙ touches a v.0 x v.2 ∙ tx in
        sym (same k.0 a k.1 v.0 x v.2)
        ∙ all_at (t v.0) (row columns v.0) k.0 (all_at (λ p. list_all (t p) (row columns p)) group v.0 h v.1) (has_mem (row columns v.0) k.0 here)))))
        (λ h. all_from (λ p. list_all (t p) (row columns p)) group (λ p mp. all_from (t p) (row columns p) (λ k mk.
        let x = atom_of p mp in
        let here : has (get_or (map f actions) k []) p ≡ true = ap (λ (rs : List (List ℕ)). has (slice_index_or rs k []) p) (sym are)
        ∙ sym (across p k (within p mp)) ∙ mem_has (row columns p) k mk in
        let a = action_at f actions k p here in
        let tx : touch a.0 x.0 ≡ true = sym (touches a.0 p x.0 x.1) ∙ ap (λ (r : List ℕ). has r p) (sym (row_of f actions k a.0 a.1)) ∙ here in
        same k a.0 a.1 p x.0 x.1
        ∙ if_at (touch a.0 x.0) (T a.0 x.0) (all_at (λ y. cond (touch a.0 y) (T a.0 y) true) (atoms_at atoms group) x.0
        (all_at (λ b. list_all (λ y. cond (touch b y) (T b y) true) (atoms_at atoms group)) actions a.0 h (mem_get actions k a.0 a.1))
        (mem_group atoms group p x.0 mp x.1)) tx)))

    taken_over_is : list_all (is_taken_over tables group) group
        ≡ list_all (λ a. at_most_one (contains a.adds) (atoms_at atoms group) && takes_over (atoms_at atoms group) a) actions
    taken_over_is =
        by_columns tables.added tables.adders (λ a. places_of atoms a.adds) ok.added ok.adders (λ a. contains a.adds) (λ a p x e. has_places atoms ok.distinct p x e a.adds)
        (takes_over_at tables group)
        (λ a x. list_all (λ y. cond (contains a.adds y) (same_atom x y) true) (atoms_at atoms group)
        && list_any (λ r. wants a.precondition r && (same_atom r x || removes a r)) (atoms_at atoms group))
        (λ k a m p x e. rw (
          alone_is (row tables.added k) (contains a.adds) (adds_row k a m) p x e,
          gives_is (row tables.wanted k) (row tables.removed k) (wants a.precondition) (removes a) (wants_row k a m) (removes_row k a m) p x e,
        ) refl)
        ∙ all_same
        (λ a. list_all (λ x. cond (contains a.adds x) (list_all (λ y. cond (contains a.adds y) (same_atom x y) true) (atoms_at atoms group)
        && list_any (λ r. wants a.precondition r && (same_atom r x || removes a r)) (atoms_at atoms group)) true) (atoms_at atoms group))
        (λ a. at_most_one (contains a.adds) (atoms_at atoms group) && takes_over (atoms_at atoms group) a) actions
        (λ a m. all_both (contains a.adds)
        (λ x. list_all (λ y. cond (contains a.adds y) (same_atom x y) true) (atoms_at atoms group))
        (λ x. list_any (λ r. wants a.precondition r && (same_atom r x || removes a r)) (atoms_at atoms group)) (atoms_at atoms group))

    left_inside_is : list_all (is_left_inside tables group) group ≡ list_all (starts_inside (atoms_at atoms group)) actions
    left_inside_is =
        by_columns tables.removed tables.removers (λ a. removed_places atoms a.adds a.deletes) ok.removed ok.removers removes (λ a p x e. has_removed_places atoms ok.distinct p x e a)
        (λ p k. starts_inside_at tables group k)
        (λ a x. list_any (contains a.adds) (atoms_at atoms group) || list_any (wants a.precondition) (atoms_at atoms group))
        (λ k a m p x e. rw (
          meets_is (row tables.added k) (contains a.adds) (adds_row k a m),
          meets_is (row tables.wanted k) (wants a.precondition) (wants_row k a m),
        ) refl)
        ∙ all_same
        (λ a. list_all (λ x. cond (removes a x) (list_any (contains a.adds) (atoms_at atoms group) || list_any (wants a.precondition) (atoms_at atoms group)) true) (atoms_at atoms group))
        (starts_inside (atoms_at atoms group)) actions
        (λ a m. all_if_any (removes a) (list_any (contains a.adds) (atoms_at atoms group) || list_any (wants a.precondition) (atoms_at atoms group)) (atoms_at atoms group))

    refilled_is : list_all (is_refilled tables group) group
        ≡ list_all (λ a. cond (list_any (removes a) (atoms_at atoms group)) (list_any (contains a.adds) (atoms_at atoms group)) true) actions
    refilled_is =
        by_columns tables.removed tables.removers (λ a. removed_places atoms a.adds a.deletes) ok.removed ok.removers removes (λ a p x e. has_removed_places atoms ok.distinct p x e a)
        (λ p k. meets group (row tables.added k))
        (λ a x. list_any (contains a.adds) (atoms_at atoms group))
        (λ k a m p x e. meets_is (row tables.added k) (contains a.adds) (adds_row k a m))
        ∙ all_same
        (λ a. list_all (λ x. cond (removes a x) (list_any (contains a.adds) (atoms_at atoms group)) true) (atoms_at atoms group))
        (λ a. cond (list_any (removes a) (atoms_at atoms group)) (list_any (contains a.adds) (atoms_at atoms group)) true) actions
        (λ a m. all_if_any (removes a) (list_any (contains a.adds) (atoms_at atoms group)) (atoms_at atoms group))

    initial_at : (p : ℕ) (x : Atom) → slice_get atoms p ≡ Some x → slice_index_or tables.initial.items p false ≡ contains task.initial x
    initial_at p x e = ok.initial p (slice_get_within atoms p x e) ∙ has_places atoms ok.distinct p x e task.initial

    some_initial_is : list_any (λ p. slice_index_or tables.initial.items p false) group ≡ list_any (contains task.initial) (atoms_at atoms group)
    some_initial_is = bool_same
        (list_any (λ p. slice_index_or tables.initial.items p false) group)
        (list_any (contains task.initial) (atoms_at atoms group))
        (λ h. let w = any_at (λ p. slice_index_or tables.initial.items p false) group h in
        let x = atom_of w.0 w.1 in
        any_from (contains task.initial) (atoms_at atoms group) x.0 (mem_group atoms group w.0 x.0 w.1 x.1) (sym (initial_at w.0 x.0 x.1) ∙ w.2))
        (λ h. let w = any_at (contains task.initial) (atoms_at atoms group) h in
        let v = group_mem atoms group w.0 w.1 in
        any_from (λ p. slice_index_or tables.initial.items p false) group v.0 v.1 (initial_at v.0 w.0 v.2 ∙ w.2))

    one_initial_is : IsStrictlyIncreasing group
        → nat_le (count_by (λ p. slice_index_or tables.initial.items p false) group) 1 ≡ at_most_one (contains task.initial) (atoms_at atoms group)
    one_initial_is rising = bool_same
        (nat_le (count_by (λ p. slice_index_or tables.initial.items p false) group) 1)
        (at_most_one (contains task.initial) (atoms_at atoms group))
        (λ h. one_from (contains task.initial) (atoms_at atoms group) (λ x y mx my tx ty.
        let v = group_mem atoms group x mx in
        let w = group_mem atoms group y my in
        let one : v.0 ≡ w.0 = counted_one (λ p. slice_index_or tables.initial.items p false) group
        (leb-true (count_by (λ p. slice_index_or tables.initial.items p false) group) 1 h)
        v.0 w.0 v.1 w.1 (initial_at v.0 x v.2 ∙ tx) (initial_at w.0 y w.2 ∙ ty) in
        let there : slice_get atoms w.0 ≡ Some x = subst (λ n. slice_get atoms n ≡ Some x) one v.2 in
        cc (there, w.2)))
        (λ h. le-leb (count_by (λ p. slice_index_or tables.initial.items p false) group) 1
        (one_counted (λ p. slice_index_or tables.initial.items p false) group (λ i j l m. AllPairs-from_increasing group rising i j 0 l m) (λ p q mp mq tp tq.
        let x = atom_of p mp in
        let y = atom_of q mq in
        let same : x.0 ≡ y.0 = one_of (contains task.initial) (atoms_at atoms group) h x.0 y.0 (mem_group atoms group p x.0 mp x.1) (mem_group atoms group q y.0 mq y.1)
        (sym (initial_at p x.0 x.1) ∙ tp) (sym (initial_at q y.0 y.1) ∙ tq) in
        one_place atoms ok.distinct p q y.0 (x.1 ∙ ap Some same) y.1)))

    pub usable_is : IsStrictlyIncreasing group → is_usable_by tables group ≡ is_usable task actions (atoms_at atoms group)
    usable_is rising = rw (one_initial_is rising, taken_over_is, left_inside_is) refl

    pub full_is : is_full_by tables group ≡ is_full task actions (atoms_at atoms group)
    full_is = rw (some_initial_is, refilled_is) refl

  module _ (p : ℕ) (x : Atom) (at_p : slice_get atoms p ≡ Some x) where
    pub excluded_is : slice_index_or tables.excluded.items p false ≡ is_excluded task actions x
    excluded_is =
        ok.excluded p (slice_get_within atoms p x at_p)
        ∙ rw (
          any_same (λ a. has (literal_places atoms false a.precondition) p) (λ a. excludes a.precondition x) actions (λ a. has_excluded_places atoms ok.distinct p x at_p a.precondition),
          has_excluded_places atoms ok.distinct p x at_p task.goal,
        ) refl

    kept_is : eqb (length (row tables.removers p)) 0 ≡ not (list_any (λ a. removes a x) actions)
    kept_is = go (row tables.removers p) refl
      where
        low : p < length atoms
        low = slice_get_within atoms p x at_p

        go : (numbers : List ℕ) → row tables.removers p ≡ numbers → eqb (length numbers) 0 ≡ not (list_any (λ a. removes a x) actions)
        go [] e = sym (not_from_false (list_any (λ a. removes a x) actions) (false_from_ne_true (list_any (λ a. removes a x) actions) (λ h.
            let w = any_at (λ a. removes a x) actions h in
            let k = get_of_mem actions w.0 w.1 in
            let here : has (row tables.removers p) k.0 ≡ true = ok.removers p k.0 low ∙ removes_row k.0 w.0 k.1 p x at_p ∙ w.2 in
            both_ways (has [] k.0) refl (subst (λ (r : List ℕ). has r k.0 ≡ true) e here))))
        go (k ∷ numbers) e =
            let here : has (row tables.removed k) p ≡ true = sym (ok.removers p k low) ∙ ap (λ (r : List ℕ). has r k) e ∙ mem_has (k ∷ numbers) k (inl refl) in
            let there : has (get_or (map (λ (a : Action). removed_places atoms a.adds a.deletes) actions) k []) p ≡ true
            = ap (λ (rs : List (List ℕ)). has (slice_index_or rs k []) p) (sym ok.removed) ∙ here in
            let a = action_at (λ (a : Action). removed_places atoms a.adds a.deletes) actions k p there in
            let gone : list_any (λ a. removes a x) actions ≡ true
            = any_from (λ a. removes a x) actions a.0 (mem_get actions k a.0 a.1) (sym (removes_row k a.0 a.1 p x at_p) ∙ here) in
            eqb-suc-zero (length numbers) ∙ sym (ap not gone)

    pub constant_is : is_constant_by tables p ≡ is_constant task actions x
    constant_is =
        rw (ok.initial p (slice_get_within atoms p x at_p) ∙ has_places atoms ok.distinct p x at_p task.initial, kept_is, excluded_is) refl

-- what is known of the element that an option has
pub if_some : {X : Type 0} (o : Option X) (P : X → Type 0) → ((x : X) → o ≡ Some x → P x) → IfSome o P
if_some None P h = tt
if_some (Some x) P h = h x refl
