-- The first fault is of the first test that fails, and of each test that fails it is one.
use Rattle.std.proofs.Common.{◌≡◌, ◌≢◌, ℕ, suc, ◌<◌, Bool, true, false, ◌&&◌, not, cond, ◌⊎◌, List, [], ◌∷◌, take, Option, Some, None, refl, sym, ap, ◌∙◌, inl, inr, ⊎_elim, subst, arith}
use Rattle.std.specs.Prelude.{slice_get, find, IsSomeAnd}
use Rattle.std.specs.List.{list_any}
use Rattle.std.proofs.lemmas.Bool.{true≢false, both_ways, cases_order}
use Rattle.std.proofs.lemmas.Option.{slice_get_within, get_or_from_slice_get}
use Rattle.pddl_task.specs.Atoms.{Atom, State, contains, same_atom}
use Rattle.pddl_task.specs.Planning.{PlanningTask, Action}
use Rattle.pddl_task.proofs.Lists.{Mem, mem_get, any_from}
use Rattle.pddl_task.proofs.AtomLaws.{same_atom_true, same_atom_self}
use Rattle.ground_atoms.specs.Order.{comes_before}
use Rattle.ground_atoms.proofs.OrderLaws.{before_of_differing}
use Rattle.ground.specs.Rounds.{wanted_atoms}
use Rattle.ground.specs.Closing.{IsLeastMissing, IsFirstOpen}
use Rattle.mutex_index.proofs.IndexLaws.{get_of_within}
use Rattle.translate_theory.specs.Translations.{Variable}
use Rattle.translate_vars.specs.declared.fault.TranslateFault.{TranslateFault}
use Rattle.translate_vars.specs.declared.fault.TranslateFault.TheVariants as fault
use Rattle.translate_vars.specs.Faults.{AreAtomsOf, IsBadAtom, is_misplaced, is_no_group, is_not_full, is_in_order, AreInOrder, is_uncovered, IsFirstUncovered}
use Rattle.translate_vars.proofs.ListingLaws.{taken_get, get_taken}
use Rattle.translate_vars.proofs.OrderLaws.{fault_from, fault_with}

-- the test fails, and the fault is of it, or it holds, and what is left is asked
abbrev pub First : Type 0 → (TranslateFault → Type 0) → (TranslateFault → Type 0) → TranslateFault → Type 0
First P here rest e = ((P → ⊥) × here e) ⊎ (P × rest e)

abbrev pub IsOne : (TranslateFault → Type 0) → Type 0
IsOne R = (e f : TranslateFault) → R e → R f → e ≡ f

pub one_first : (P : Type 0) (here rest : TranslateFault → Type 0) → IsOne here → IsOne rest → IsOne (First P here rest)
one_first P here rest one more e f (inl a) (inl b) = one e f a.1 b.1
one_first P here rest one more e f (inl a) (inr b) = absurd (a.0 b.0)
one_first P here rest one more e f (inr a) (inl b) = absurd (b.0 a.0)
one_first P here rest one more e f (inr a) (inr b) = more e f a.1 b.1

pub passed : {P Here Rest : Type 0} → P → ((P → ⊥) × Here) ⊎ (P × Rest) → Rest
passed p (inl a) = absurd (a.0 p)
passed p (inr a) = a.1

pub same_as : (g : TranslateFault) → IsOne (λ e. e ≡ g)
same_as g e f a b = a ∙ sym b

-- ---- lists

pub found : {X : Type 0} (f : X → Bool) (xs : List X) (x : X) → find f xs ≡ Some x → Mem x xs × (f x ≡ true)
found f [] x e = cc e
found f (y ∷ xs) x e = go (f y) refl e (found f xs x)
  where
    go : (b : Bool) → f y ≡ b → cond b (Some y) (find f xs) ≡ Some x → (find f xs ≡ Some x → Mem x xs × (f x ≡ true)) → Mem x (y ∷ xs) × (f x ≡ true)
    go true q h ih = let same : y ≡ x = cc h in (inl same, rw (← same) q)
    go false q h ih = let w = ih h in (inr w.0, w.1)

pub some_and : {X : Type 0} (o : Option X) (P : X → Type 0) → IsSomeAnd o P → (x : X) × (o ≡ Some x) × P x
some_and None P h = absurd h
some_and (Some x) P h = (x, refl, h)

-- a list with the same atoms at its places, as far as it goes
pub known_less : (task : PlanningTask) (xs ys : List Atom) → ((k : ℕ) (p : Atom) → slice_get xs k ≡ Some p → slice_get ys k ≡ Some p) → AreAtomsOf task ys → AreAtomsOf task xs
known_less task xs ys less are = record {
  known = λ k p e. are.known k p (less k p e);
  distinct = λ i j d l m same.
      let x = get_of_within xs i (omega (arith, l, m)) in
      let y = get_of_within xs j m in
      let in' = slice_get_within ys j y.0 (less j y.0 y.1) in
      are.distinct i j d l in'
      (get_or_from_slice_get ys i x.0 d (less i x.0 x.1) ∙ sym (get_or_from_slice_get xs i x.0 d x.1) ∙ same
      ∙ get_or_from_slice_get xs j y.0 d y.1 ∙ sym (get_or_from_slice_get ys j y.0 d (less j y.0 y.1)));
}

-- ---- one fault of each test

one_least : (set : State) (atoms : List Atom) (p q : Atom) → IsLeastMissing set atoms p → IsLeastMissing set atoms q → p ≡ q
one_least set atoms p q a b = go (same_atom p q) refl
  where
    go : (t : Bool) → same_atom p q ≡ t → p ≡ q
    go true e = same_atom_true p q e
    go false e =
        let differ : p ≢ q = λ s. true≢false (sym (rw (← s) (same_atom_self p)) ∙ e) in
        absurd (both_ways (comes_before p q) (b.least p a.added a.missing) (before_of_differing p q differ (a.least q b.added b.missing)))

module _ (task : PlanningTask) (atoms : List Atom) where
  abbrev pub IsBad : TranslateFault → Type 0
  IsBad e = (k : ℕ) × (e ≡ fault.BadAtom k) × IsBadAtom task atoms k

  abbrev pub IsMissingInitial : TranslateFault → Type 0
  IsMissingInitial e = (p : Atom) × (e ≡ fault.Missing p) × IsLeastMissing (contains atoms) task.initial p

  abbrev pub IsMissingGoal : TranslateFault → Type 0
  IsMissingGoal e = (p : Atom) × (e ≡ fault.Missing p) × (find (λ q. not (contains atoms q)) (wanted_atoms task.goal) ≡ Some p)

  abbrev pub IsOpenAt : TranslateFault → Type 0
  IsOpenAt e = (p : Atom) × (e ≡ fault.NotClosed p) × ((a : Action) × IsFirstOpen task (contains atoms) a p)

  not_before : (k l : ℕ) → IsBadAtom task atoms k → IsBadAtom task atoms l → k < l → ⊥
  not_before k l a b less = a.bad (known_less task (take (suc k) atoms) (take l atoms) (λ i p e.
      let w = taken_get atoms (suc k) i p e in get_taken atoms l i p (omega (arith, w.0, less)) w.1) b.before)

  pub one_bad : IsOne IsBad
  one_bad e f (k, a, x) (l, b, y) =
      ⊎_elim (λ (s : k ≡ l). a ∙ ap fault.BadAtom s ∙ sym b)
      (λ r. ⊎_elim (λ (s : k < l). absurd (not_before k l x y s)) (λ (s : l < k). absurd (not_before l k y x s)) r)
      (cases_order k l)

  pub one_initial : IsOne IsMissingInitial
  one_initial e f (p, a, x) (q, b, y) = a ∙ ap fault.Missing (one_least (contains atoms) task.initial p q x y) ∙ sym b

  pub one_goal : IsOne IsMissingGoal
  one_goal e f (p, a, x) (q, b, y) = let s : p ≡ q = cc (sym x ∙ y) in a ∙ ap fault.Missing s ∙ sym b

  pub one_open : IsOne IsOpenAt
  one_open e f (p, a, (x, h)) (q, b, (y, g)) =
      let s : x ≡ y = cc (sym h.first ∙ g.first) in
      let there : IsLeastMissing (contains atoms) x.adds q = rw s g.least in
      a ∙ ap fault.NotClosed (one_least (contains atoms) x.adds p q h.least there) ∙ sym b

  module _ (actions : List Action) (variables : List Variable) where
    abbrev pub IsWrongAt : TranslateFault → Type 0
    IsWrongAt e = (k : ℕ) × (v : Variable) × AreInOrder task actions variables k × (slice_get variables k ≡ Some v) × (fault_with task actions (take k variables) k v ≡ Some e)

    abbrev pub IsUncoveredAt : TranslateFault → Type 0
    IsUncoveredAt e = (k : ℕ) × (e ≡ fault.Uncovered k) × IsFirstUncovered task actions atoms variables k

    wrong_none : (m n f : Bool) (number : ℕ) → (not m && not n && not f) ≡ true → fault_from m n f number ≡ None
    wrong_none true n f number e = cc e
    wrong_none false true f number e = cc e
    wrong_none false false true number e = cc e
    wrong_none false false false number e = refl

    pub not_wrong : (earlier : List Variable) (number : ℕ) (v : Variable) (e : TranslateFault) → is_in_order task actions earlier v ≡ true → fault_with task actions earlier number v ≡ Some e → ⊥
    not_wrong earlier number v e h g = cc (sym (wrong_none (is_misplaced task actions earlier v) (is_no_group task actions v) (is_not_full task actions v) number h) ∙ g)

    pub one_wrong : IsOne IsWrongAt
    one_wrong e f (k, v, a, x, h) (l, u, b, y, g) =
        ⊎_elim
        (λ (s : k ≡ l).
        let there : slice_get variables l ≡ Some v = subst (λ n. slice_get variables n ≡ Some v) s x in
        let same : v ≡ u = cc (sym there ∙ y) in
        let both : fault_with task actions (take l variables) l u ≡ Some e = subst (λ (w : Variable). fault_with task actions (take l variables) l w ≡ Some e) same
        (subst (λ n. fault_with task actions (take n variables) n v ≡ Some e) s h) in
        cc (sym both ∙ g))
        (λ r. ⊎_elim
        (λ (s : k < l). absurd (not_wrong (take k variables) k v e (b k v s x) h))
        (λ (s : l < k). absurd (not_wrong (take l variables) l u f (a l u s y) g)) r)
        (cases_order k l)

    not_covered : (k l : ℕ) → IsFirstUncovered task actions atoms variables k → IsFirstUncovered task actions atoms variables l → k < l → ⊥
    not_covered k l a b less =
        let w = some_and (slice_get atoms k) (λ p. is_uncovered task actions variables p ≡ true) a.uncovered in
        both_ways (list_any (is_uncovered task actions variables) (take l atoms)) b.first
        (any_from (is_uncovered task actions variables) (take l atoms) w.0 (mem_get (take l atoms) k w.0 (get_taken atoms l k w.0 less w.1)) w.2)

    pub one_uncovered : IsOne IsUncoveredAt
    one_uncovered e f (k, a, x) (l, b, y) =
        ⊎_elim (λ (s : k ≡ l). a ∙ ap fault.Uncovered s ∙ sym b)
        (λ r. ⊎_elim (λ (s : k < l). absurd (not_covered k l x y s)) (λ (s : l < k). absurd (not_covered l k y x s)) r)
        (cases_order k l)
