-- What the tables of an index tell of the atoms at places.
use Rattle.std.proofs.Common.{◌≡◌, ℕ, zero, suc, ◌+◌, ◌<◌, ◌≤◌, Bool, true, false, ◌&&◌, ◌||◌, not, cond, List, [], ◌∷◌, length, get_or, map, Option, Some, None, refl, sym, ap, ◌∙◌, arith, inl, inr, eqb, ltb, lt-ltb}
use Rattle.std.specs.Prelude.{slice_get, position, count_by}
use Rattle.std.specs.List.{list_all, list_any, filter_map, cons_option, position_or_len}
use Rattle.std.specs.Option.{option_map_or}
use Rattle.std.proofs.lemmas.Bool.{and_parts, and_from, eqb-true, eq-eqb, false≢true, not-true, not_from_false, false_from_ne_true, both_ways}
use Rattle.std.proofs.lemmas.List.Quantifiers.{position-Some}
use Rattle.std.proofs.lemmas.List.Sums.{position_or_len_is, sum_by-cons}
use Rattle.std.proofs.lemmas.Option.{slice_get_within, get_or_from_slice_get}
use Rattle.pddl_task.specs.Atoms.{Atom, Literal, same_atom, contains, wants, excludes}
use Rattle.pddl_task.specs.Planning.{Action}
use Rattle.pddl_task.proofs.Lists.{Mem, bool_same, get_of_mem}
use Rattle.pddl_task.proofs.AtomLaws.{same_atom_true, same_atom_self}
use Rattle.ground_atoms.specs.Order.{AreDistinct}
use Rattle.mutex_index.specs.Groups.{removes}
use Rattle.index_rows.specs.Numbers.{has}
use Rattle.mutex_index.specs.Places.{places_of, literal_places, removed_places}

-- tests over lists

pub all_both : {X : Type 0} (c f g : X → Bool) (xs : List X)
    → list_all (λ x. cond (c x) (f x && g x) true) xs ≡ (list_all (λ x. cond (c x) (f x) true) xs && list_all (λ x. cond (c x) (g x) true) xs)
all_both c f g [] = refl
all_both c f g (x ∷ xs) = rw (all_both c f g xs) (go (c x) (f x) (g x) (list_all (λ x. cond (c x) (f x) true) xs) (list_all (λ x. cond (c x) (g x) true) xs))
  where
    go : (b p q r s : Bool) → (cond b (p && q) true && (r && s)) ≡ ((cond b p true && r) && (cond b q true && s))
    go false p q r s = refl
    go true false q r s = refl
    go true true q true s = refl
    go true true true false s = refl
    go true true false false s = refl

pub all_if_any : {X : Type 0} (c : X → Bool) (b : Bool) (xs : List X) → list_all (λ x. cond (c x) b true) xs ≡ cond (list_any c xs) b true
all_if_any c b [] = refl
all_if_any c b (x ∷ xs) = rw (all_if_any c b xs) (go (c x) b (list_any c xs))
  where
    go : (a b r : Bool) → (cond a b true && cond r b true) ≡ cond (a || r) b true
    go true true true = refl
    go true true false = refl
    go true false r = refl
    go false b r = refl

pub all_same : {X : Type 0} (f g : X → Bool) (xs : List X) → ((x : X) → Mem x xs → f x ≡ g x) → list_all f xs ≡ list_all g xs
all_same f g [] h = refl
all_same f g (x ∷ xs) h = rw (h x (inl refl), all_same f g xs (λ y m. h y (inr m))) refl

any_and : {X : Type 0} (f : X → Bool) (b : Bool) (xs : List X) → list_any (λ x. f x && b) xs ≡ (list_any f xs && b)
any_and f b [] = refl
any_and f b (x ∷ xs) = rw (any_and f b xs) (go (f x) b (list_any f xs))
  where
    go : (p b r : Bool) → ((p && b) || (r && b)) ≡ ((p || r) && b)
    go true true r = refl
    go true false true = refl
    go true false false = refl
    go false b r = refl

pub any_same : {X : Type 0} (f g : X → Bool) (xs : List X) → ((x : X) → f x ≡ g x) → list_any f xs ≡ list_any g xs
any_same f g [] h = refl
any_same f g (x ∷ xs) h = rw (h x, any_same f g xs h) refl

-- how many pass a test

count_more : (f : ℕ → Bool) (x : ℕ) (xs : List ℕ) → count_by f (x ∷ xs) ≡ cond (f x) 1 0 + count_by f xs
count_more f x xs = sum_by-cons (λ y. cond (f y) 1 0) x xs

none_counted : (f : ℕ → Bool) (xs : List ℕ) → ((p : ℕ) → Mem p xs → f p ≡ false) → count_by f xs ≡ 0
none_counted f [] h = refl
none_counted f (x ∷ xs) h = count_more f x xs ∙ rw (h x (inl refl), none_counted f xs (λ p m. h p (inr m))) refl

counted_none : (f : ℕ → Bool) (xs : List ℕ) → count_by f xs ≤ 0 → (p : ℕ) → Mem p xs → f p ≡ false
counted_none f [] h p m = absurd m
counted_none f (x ∷ xs) h p m = go (f x) refl (count_by f (x ∷ xs)) (count_more f x xs) h m (counted_none f xs)
  where
    go : (b : Bool) → f x ≡ b → (n : ℕ) → n ≡ cond b 1 0 + count_by f xs → n ≤ 0 → Mem p (x ∷ xs) → (count_by f xs ≤ 0 → (p : ℕ) → Mem p xs → f p ≡ false) → f p ≡ false
    go true e n c l m ih = absurd (omega (arith, c, l))
    go false e n c l (inl q) ih = rw (← q) e
    go false e n c l (inr m) ih = ih (omega (arith, c, l)) p m

pub counted_one : (f : ℕ → Bool) (xs : List ℕ) → count_by f xs ≤ 1 → (p q : ℕ) → Mem p xs → Mem q xs → f p ≡ true → f q ≡ true → p ≡ q
counted_one f [] h p q mp mq tp tq = absurd mp
counted_one f (x ∷ xs) h p q mp mq tp tq = go (f x) refl (count_by f (x ∷ xs)) (count_more f x xs) h mp mq (counted_one f xs)
  where
    go : (b : Bool) → f x ≡ b → (n : ℕ) → n ≡ cond b 1 0 + count_by f xs → n ≤ 1 → Mem p (x ∷ xs) → Mem q (x ∷ xs)
        → (count_by f xs ≤ 1 → (p q : ℕ) → Mem p xs → Mem q xs → f p ≡ true → f q ≡ true → p ≡ q) → p ≡ q
    go true e n c l (inl a) (inl b) ih = sym a ∙ b
    go true e n c l (inl a) (inr m) ih = absurd (both_ways (f q) (counted_none f xs (omega (arith, c, l)) q m) tq)
    go true e n c l (inr m) k ih = absurd (both_ways (f p) (counted_none f xs (omega (arith, c, l)) p m) tp)
    go false e n c l (inl a) k ih = absurd (both_ways (f x) e (rw a tp))
    go false e n c l (inr m) (inl b) ih = absurd (both_ways (f x) e (rw b tq))
    go false e n c l (inr m) (inr k) ih = ih (omega (arith, c, l)) p q m k tp tq

pub one_counted : (f : ℕ → Bool) (xs : List ℕ) → ((i j : ℕ) → i < j → j < length xs → get_or xs i 0 < get_or xs j 0)
    → ((p q : ℕ) → Mem p xs → Mem q xs → f p ≡ true → f q ≡ true → p ≡ q) → count_by f xs ≤ 1
one_counted f [] rise h = omega arith
one_counted f (x ∷ xs) rise h =
    go (f x) refl (count_by f (x ∷ xs)) (count_more f x xs)
    (one_counted f xs (λ i j l m. rise (suc i) (suc j) (omega arith) (omega arith)) (λ p q mp mq. h p q (inr mp) (inr mq)))
  where
    later : (p : ℕ) → Mem p xs → x < p
    later p m =
        let w = get_of_mem xs p m in
        let here = get_or_from_slice_get xs w.0 p 0 w.1 in
        let within = slice_get_within xs w.0 p w.1 in
        let up = rise 0 (suc w.0) (omega arith) (omega (arith, within)) in
        omega (arith, here, up)

    go : (b : Bool) → f x ≡ b → (n : ℕ) → n ≡ cond b 1 0 + count_by f xs → count_by f xs ≤ 1 → n ≤ 1
    go true e n c ih = omega (
      arith,
      c,
      none_counted f xs (λ p m. false_from_ne_true (f p) (λ t.
          let same = h x p (inl refl) (inr m) e t in let up = later p m in omega (arith, same, up))),
    )
    go false e n c ih = omega (arith, c, ih)

-- rows of numbers

filter_has : {Y : Type 0} (f : Y → Option ℕ) (g : Y → Bool) (p : ℕ) → ((y : Y) → option_map_or (λ q. eqb q p) (f y) false ≡ g y)
    → (ys : List Y) → has (filter_map f ys) p ≡ list_any g ys
filter_has f g p h [] = refl
filter_has f g p h (y ∷ ys) = go (f y) (h y) (filter_has f g p h ys)
  where
    go : (o : Option ℕ) → option_map_or (λ q. eqb q p) o false ≡ g y → has (filter_map f ys) p ≡ list_any g ys
        → has (cons_option o (filter_map f ys)) p ≡ (g y || list_any g ys)
    go None e rest = rw (← e) rest
    go (Some q) e rest = rw (e, rest) refl

pub row_of : (f : Action → List ℕ) (actions : List Action) (k : ℕ) (a : Action) → slice_get actions k ≡ Some a → get_or (map f actions) k [] ≡ f a
row_of f [] k a e = cc e
row_of f (b ∷ actions) zero a e = let q : b ≡ a = cc e in ap f q
row_of f (b ∷ actions) (suc k) a e = row_of f actions k a e

pub action_at : (f : Action → List ℕ) (actions : List Action) (k p : ℕ) → has (get_or (map f actions) k []) p ≡ true → (a : Action) × (slice_get actions k ≡ Some a)
action_at f [] k p h = absurd (false≢true h)
action_at f (b ∷ actions) zero p h = (b, refl)
action_at f (b ∷ actions) (suc k) p h = action_at f actions k p h

pub get_of_within : {X : Type 0} (xs : List X) (k : ℕ) → k < length xs → (x : X) × (slice_get xs k ≡ Some x)
get_of_within [] k l = absurd (omega arith)
get_of_within (x ∷ xs) zero l = (x, refl)
get_of_within (x ∷ xs) (suc k) l = get_of_within xs k (omega arith)

-- the atoms at places

module _ (atoms : List Atom) (distinct : AreDistinct atoms) where
  place_at : (p : ℕ) (x : Atom) → slice_get atoms p ≡ Some x → position (same_atom x) atoms ≡ Some p
  place_at p x e =
      let within = slice_get_within atoms p x e in
      let here : get_or atoms p x ≡ x = get_or_from_slice_get atoms p x x e in
      let first : position_or_len (same_atom x) atoms ≡ p = position_or_len_is (same_atom x) atoms p x (omega (arith, within))
      (λ k l. false_from_ne_true (same_atom x (get_or atoms k x)) (λ s. distinct k p x l within (sym (same_atom_true x (get_or atoms k x) s) ∙ sym here)))
      (λ l. rw here (same_atom_self x)) in
      let low : ltb p (length atoms) ≡ true = lt-ltb p (length atoms) within in
      rw first (rw low refl)

  atom_at : (p : ℕ) (x : Atom) → position (same_atom x) atoms ≡ Some p → slice_get atoms p ≡ Some x
  atom_at p x e =
      let w = position-Some (same_atom x) atoms p x e in
      let y = get_of_within atoms p w.0 in
      let here : get_or atoms p x ≡ y.0 = get_or_from_slice_get atoms p y.0 x y.1 in
      let same : x ≡ y.0 = same_atom_true x (get_or atoms p x) w.1 ∙ here in
      y.1 ∙ ap Some (sym same)

  pub one_place : (p q : ℕ) (x : Atom) → slice_get atoms p ≡ Some x → slice_get atoms q ≡ Some x → p ≡ q
  one_place p q x e f = let a = place_at p x e in let b = place_at q x f in cc

  module _ (p : ℕ) (x : Atom) (at_p : slice_get atoms p ≡ Some x) where
    place_is : (y : Atom) → option_map_or (λ q. eqb q p) (position (same_atom y) atoms) false ≡ same_atom x y
    place_is y = go (position (same_atom y) atoms) refl
      where
        go : (o : Option ℕ) → position (same_atom y) atoms ≡ o → option_map_or (λ q. eqb q p) o false ≡ same_atom x y
        go None e = sym (false_from_ne_true (same_atom x y) (λ s.
            let same = same_atom_true x y s in
            let there : position (same_atom y) atoms ≡ Some p = place_at p y (at_p ∙ ap Some same) in cc))
        go (Some q) e = bool_same (eqb q p) (same_atom x y)
            (λ s. let same : q ≡ p = eqb-true q p s in
            let there : slice_get atoms q ≡ Some y = atom_at q y e in
            let both : x ≡ y = cc in
            rw both (same_atom_self y))
            (λ s. let same = same_atom_true x y s in
            let there : position (same_atom y) atoms ≡ Some p = place_at p y (at_p ∙ ap Some same) in
            let both : q ≡ p = cc in
            eq-eqb q p both)

    pub has_places : (more : List Atom) → has (places_of atoms more) p ≡ contains more x
    has_places more = filter_has (λ y. position (same_atom y) atoms) (same_atom x) p place_is more

    pub has_wanted_places : (literals : List Literal) → has (literal_places atoms true literals) p ≡ wants literals x
    has_wanted_places literals =
        filter_has (λ l. cond (cond l.positive true (not true)) (position (same_atom l.atom) atoms) None) (λ l. l.positive && same_atom x l.atom) p (λ l. go l l.positive) literals
      where
        go : (l : Literal) (b : Bool) → option_map_or (λ q. eqb q p) (cond (cond b true (not true)) (position (same_atom l.atom) atoms) None) false ≡ (b && same_atom x l.atom)
        go l true = place_is l.atom
        go l false = refl

    pub has_excluded_places : (literals : List Literal) → has (literal_places atoms false literals) p ≡ excludes literals x
    has_excluded_places literals =
        filter_has (λ l. cond (cond l.positive false (not false)) (position (same_atom l.atom) atoms) None) (λ l. not l.positive && same_atom x l.atom) p (λ l. go l l.positive) literals
      where
        go : (l : Literal) (b : Bool) → option_map_or (λ q. eqb q p) (cond (cond b false (not false)) (position (same_atom l.atom) atoms) None) false ≡ (not b && same_atom x l.atom)
        go l true = refl
        go l false = place_is l.atom

    pub has_removed_places : (a : Action) → has (removed_places atoms a.adds a.deletes) p ≡ removes a x
    has_removed_places a =
        filter_has (λ y. cond (contains a.adds y) None (position (same_atom y) atoms)) (λ y. same_atom x y && not (contains a.adds x)) p each a.deletes
        ∙ any_and (same_atom x) (not (contains a.adds x)) a.deletes
      where
        each : (y : Atom) → option_map_or (λ q. eqb q p) (cond (contains a.adds y) None (position (same_atom y) atoms)) false ≡ (same_atom x y && not (contains a.adds x))
        each y = go (contains a.adds y) refl
          where
            go : (b : Bool) → contains a.adds y ≡ b → option_map_or (λ q. eqb q p) (cond b None (position (same_atom y) atoms)) false ≡ (same_atom x y && not (contains a.adds x))
            go true e = sym (false_from_ne_true (same_atom x y && not (contains a.adds x)) (λ s.
                let parts = and_parts (same_atom x y) (not (contains a.adds x)) s in
                let same = same_atom_true x y parts.0 in
                let out : contains a.adds x ≡ false = not-true (contains a.adds x) parts.1 in
                let there : contains a.adds x ≡ true = rw same e in
                both_ways (contains a.adds x) out there))
            go false e = place_is y ∙ bool_same (same_atom x y) (same_atom x y && not (contains a.adds x))
                (λ s. let same = same_atom_true x y s in
                let out : contains a.adds x ≡ false = rw same e in
                and_from (same_atom x y) (not (contains a.adds x)) s (not_from_false (contains a.adds x) out))
                (λ s. (and_parts (same_atom x y) (not (contains a.adds x)) s).0)
