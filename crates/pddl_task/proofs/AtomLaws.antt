-- Atoms, sets of atoms, and literals.
use Rattle.std.proofs.Common.{◌≡◌, ℕ, Bool, true, false, ◌&&◌, not, cond, List, [], ◌∷◌, refl, sym, ⊎_elim, eqb, ◌∙◌}
use Rattle.std.specs.List.{list_all}
use Rattle.std.proofs.lemmas.Bool.{and_parts, and_from, eqb-true, eq-eqb, true≢false, not-true, not_from_false}
use Rattle.pddl_task.specs.Atoms.{Atom, State, Literal, same_numbers, same_atom, contains, at_most_one, literal_holds, satisfies, wants, excludes, is_contradictory, has_wanted}
use Rattle.pddl_task.proofs.Lists.{Mem, if_at, if_from, all_at, all_from, any_at, any_from}

same_numbers_true : (xs ys : List ℕ) → same_numbers xs ys ≡ true → xs ≡ ys
same_numbers_true [] [] h = refl
same_numbers_true [] (y ∷ ys) h = cc h
same_numbers_true (x ∷ xs) [] h = cc h
same_numbers_true (x ∷ xs) (y ∷ ys) h =
    let parts = and_parts (eqb x y) (same_numbers xs ys) h in
    rw (eqb-true x y parts.0, same_numbers_true xs ys parts.1)

same_numbers_self : (xs : List ℕ) → same_numbers xs xs ≡ true
same_numbers_self [] = refl
same_numbers_self (x ∷ xs) = and_from (eqb x x) (same_numbers xs xs) (eq-eqb x x refl) (same_numbers_self xs)

pub same_atom_true : (p q : Atom) → same_atom p q ≡ true → p ≡ q
same_atom_true p q h =
    let parts = and_parts (eqb p.predicate q.predicate) (same_numbers p.objects q.objects) h in
    let a = eqb-true p.predicate q.predicate parts.0 in
    let b = same_numbers_true p.objects q.objects parts.1 in
    λ i. record { predicate = a i; objects = b i }

pub same_atom_self : (p : Atom) → same_atom p p ≡ true
same_atom_self p = and_from (eqb p.predicate p.predicate) (same_numbers p.objects p.objects) (eq-eqb p.predicate p.predicate refl) (same_numbers_self p.objects)

pub contains_mem : (atoms : List Atom) (p : Atom) → contains atoms p ≡ true → Mem p atoms
contains_mem atoms p h =
    let w = any_at (same_atom p) atoms h in
    rw (same_atom_true p w.0 w.2) w.1

pub mem_contains : (atoms : List Atom) (p : Atom) → Mem p atoms → contains atoms p ≡ true
mem_contains atoms p m = any_from (same_atom p) atoms p m (same_atom_self p)

-- at most one atom of the list passes
pub one_of : (test : State) (atoms : List Atom) → at_most_one test atoms ≡ true → (p q : Atom) → Mem p atoms → Mem q atoms → test p ≡ true → test q ≡ true → p ≡ q
one_of test atoms h p q mp mq tp tq =
    same_atom_true p q
    (if_at (test q) (same_atom p q)
    (all_at (λ r. cond (test r) (same_atom p r) true) atoms q
    (if_at (test p) _ (all_at (λ s. cond (test s) (list_all (λ r. cond (test r) (same_atom s r) true) atoms) true) atoms p h mp) tp)
    mq)
    tq)

pub one_from : (test : State) (atoms : List Atom) → ((p q : Atom) → Mem p atoms → Mem q atoms → test p ≡ true → test q ≡ true → p ≡ q) → at_most_one test atoms ≡ true
one_from test atoms h =
    all_from (λ s. cond (test s) (list_all (λ r. cond (test r) (same_atom s r) true) atoms) true) atoms
    (λ p mp. if_from (test p) _ (λ tp. all_from (λ r. cond (test r) (same_atom p r) true) atoms
    (λ q mq. if_from (test q) (same_atom p q) (λ tq. rw (h p q mp mq tp tq) (same_atom_self q)))))

pub one_single : (test : State) (p : Atom) → at_most_one test (p ∷ []) ≡ true
one_single test p = one_from test (p ∷ []) (λ q r mq mr tq tr. ⊎_elim (λ (e : p ≡ q). ⊎_elim (λ (d : p ≡ r). sym e ∙ d) (λ (k : ⊥). absurd k) mr) (λ (k : ⊥). absurd k) mq)

-- a test that passes less keeps it
pub one_less : (test other : State) (atoms : List Atom) → at_most_one test atoms ≡ true → ((p : Atom) → Mem p atoms → other p ≡ true → test p ≡ true) → at_most_one other atoms ≡ true
one_less test other atoms h less =
    one_from other atoms (λ p q mp mq op oq. one_of test atoms h p q mp mq (less p mp op) (less q mq oq))

module _ (literals : List Literal) where
  -- where the literals hold, a wanted atom is true, and an excluded one is not
  pub wanted_holds : (state : State) (p : Atom) → satisfies state literals ≡ true → wants literals p ≡ true → state p ≡ true
  wanted_holds state p h w =
      let l = any_at (λ (l : Literal). l.positive && same_atom p l.atom) literals w in
      let parts = and_parts l.0.positive (same_atom p l.0.atom) l.2 in
      let holds = all_at (literal_holds state) literals l.0 h l.1 in
      rw (same_atom_true p l.0.atom parts.1) (rw parts.0 at holds)

  pub excluded_fails : (state : State) (p : Atom) → satisfies state literals ≡ true → excludes literals p ≡ true → state p ≡ false
  excluded_fails state p h w =
      let l = any_at (λ (l : Literal). not l.positive && same_atom p l.atom) literals w in
      let parts = and_parts (not l.0.positive) (same_atom p l.0.atom) l.2 in
      let holds = all_at (literal_holds state) literals l.0 h l.1 in
      rw (same_atom_true p l.0.atom parts.1) (not-true (state l.0.atom) (rw (not-true l.0.positive parts.0) at holds))

  -- the other way round
  pub satisfied_from : (state : State) → ((p : Atom) → wants literals p ≡ true → state p ≡ true) → ((p : Atom) → excludes literals p ≡ true → state p ≡ false) → satisfies state literals ≡ true
  satisfied_from state yes_ no_ = all_from (literal_holds state) literals (λ l m. go l m l.positive refl)
    where
      go : (l : Literal) → Mem l literals → (b : Bool) → l.positive ≡ b → cond b (state l.atom) (not (state l.atom)) ≡ true
      go l m true e = yes_ l.atom (any_from (λ (k : Literal). k.positive && same_atom l.atom k.atom) literals l m (and_from _ _ e (same_atom_self l.atom)))
      go l m false e =
          not_from_false (state l.atom)
          (no_ l.atom (any_from (λ (k : Literal). not k.positive && same_atom l.atom k.atom) literals l m (and_from _ _ (not_from_false l.positive e) (same_atom_self l.atom))))

  -- no atom is wanted and excluded
  pub not_both : (p : Atom) → is_contradictory literals ≡ false → wants literals p ≡ true → excludes literals p ≡ true → ⊥
  not_both p h w x =
      let l = any_at (λ (l : Literal). l.positive && same_atom p l.atom) literals w in
      let parts = and_parts l.0.positive (same_atom p l.0.atom) l.2 in
      let there : excludes literals l.0.atom ≡ true = rw (← same_atom_true p l.0.atom parts.1) x in
      true≢false (sym (any_from (λ (k : Literal). k.positive && excludes literals k.atom) literals l.0 l.1 (and_from _ _ parts.0 there)) ∙ h)

  pub consistent_from : ((p : Atom) → wants literals p ≡ true → excludes literals p ≡ true → ⊥) → is_contradictory literals ≡ false
  consistent_from h = go (is_contradictory literals) refl
    where
      go : (b : Bool) → is_contradictory literals ≡ b → b ≡ false
      go false e = refl
      go true e =
          let l = any_at (λ (k : Literal). k.positive && excludes literals k.atom) literals e in
          let parts = and_parts l.0.positive (excludes literals l.0.atom) l.2 in
          absurd (h l.0.atom (any_from (λ (k : Literal). k.positive && same_atom l.0.atom k.atom) literals l.0 l.1 (and_from _ _ parts.0 (same_atom_self l.0.atom))) parts.1)

  -- wanted atoms are in the set
  pub wanted_in : (set : State) (p : Atom) → has_wanted set literals ≡ true → wants literals p ≡ true → set p ≡ true
  wanted_in set p h w =
      let l = any_at (λ (l : Literal). l.positive && same_atom p l.atom) literals w in
      let parts = and_parts l.0.positive (same_atom p l.0.atom) l.2 in
      rw (same_atom_true p l.0.atom parts.1) (if_at l.0.positive (set l.0.atom) (all_at (λ (k : Literal). cond k.positive (set k.atom) true) literals l.0 h l.1) parts.0)

  -- and the other way round
  pub in_from : (set : State) → ((p : Atom) → wants literals p ≡ true → set p ≡ true) → has_wanted set literals ≡ true
  in_from set h =
      all_from (λ (k : Literal). cond k.positive (set k.atom) true) literals
      (λ l m. if_from l.positive (set l.atom) (λ e. h l.atom (any_from (λ (k : Literal). k.positive && same_atom l.atom k.atom) literals l m (and_from _ _ e (same_atom_self l.atom)))))
