-- Facts in the order of their variables: where a fact is found, and how one is set.
use Rattle.std.proofs.Common.{◌≡◌, ◌≢◌, ℕ, zero, suc, ◌+◌, ◌<◌, ◌≤◌, Bool, true, false, cond, ◌⊎◌, List, [], ◌∷◌, length, get_or, set, Option, Some, None, Result, Ok, Err, refl, sym, ap, ◌∙◌, arith, inl, inr, eqb, ltb, leb}
use Rattle.std.specs.List.{insert}
use Rattle.std.specs.List.Sorted.{IsSearchInRange, IsBinarySearchResult, IsNonDecreasingBy}
use Rattle.std.specs.Ordering.{nat_cmp, ordering_index}
use Rattle.std.proofs.lemmas.Bool.{and_parts, and_from, eqb-true, eq-eqb, ltb-true, ltb-false, lt-ltb, leb-true, le-leb, false_from_ne_true}
use Rattle.std.proofs.lemmas.Bool.Decides.{nat_tests}
use Rattle.std.proofs.lemmas.Cmp.{ranked}
use Rattle.std.proofs.lemmas.List.Sorted.{IsNonDecreasingBy-from_default}
use Rattle.pddl_task.proofs.Lists.{Mem}
use Rattle.fdr.specs.declared.fact.Fact.{Fact}
use Rattle.translate_assembly.specs.Facts.{are_from, value_at, set_fact, with_fact, assigned, one_more, place_in}

-- tests on numbers
pub not_below : (a b : ℕ) → b ≤ a → ltb a b ≡ false
not_below a b l = false_from_ne_true (ltb a b) (λ e. omega (arith, ltb-true a b e))

pub not_same : (a b : ℕ) → a ≢ b → eqb a b ≡ false
not_same a b n = false_from_ne_true (eqb a b) (λ e. n (eqb-true a b e))

-- the first of facts from a number on, and the others
pub from_parts : (n : ℕ) (f : Fact) (fs : List Fact) → are_from n (f ∷ fs) ≡ true → (n ≤ f.variable) × (are_from (f.variable + 1) fs ≡ true)
from_parts n f fs h =
    let w = and_parts (leb n f.variable) (are_from (f.variable + 1) fs) h in (leb-true n f.variable w.0, w.1)

pub from_both : (n : ℕ) (f : Fact) (fs : List Fact) → n ≤ f.variable → are_from (f.variable + 1) fs ≡ true → are_from n (f ∷ fs) ≡ true
from_both n f fs l h = and_from (leb n f.variable) (are_from (f.variable + 1) fs) (le-leb n f.variable l) h

pub from_lower : (m n : ℕ) (fs : List Fact) → m ≤ n → are_from n fs ≡ true → are_from m fs ≡ true
from_lower m n [] l h = refl
from_lower m n (f ∷ fs) l h = let w = from_parts n f fs h in from_both m f fs (omega (arith, w.0)) w.1

pub none_below : (n : ℕ) (fs : List Fact) (k : ℕ) → are_from n fs ≡ true → k < n → value_at fs k ≡ None
none_below n [] k h l = refl
none_below n (f ∷ fs) k h l =
    let w = from_parts n f fs h in
    let e : eqb f.variable k ≡ false = not_same f.variable k (λ q. omega (arith, w.0, q, l)) in
    rw e (none_below (f.variable + 1) fs k w.1 (omega (arith, w.0, l)))

at_least : (n : ℕ) (fs : List Fact) (j : ℕ) (d : Fact) → are_from n fs ≡ true → j < length fs → n ≤ (get_or fs j d).variable
at_least n [] j d h l = absurd (omega (arith, l))
at_least n (f ∷ fs) zero d h l = (from_parts n f fs h).0
at_least n (f ∷ fs) (suc j) d h l =
    let w = from_parts n f fs h in
    let r = at_least (f.variable + 1) fs j d w.1 (omega (arith, l)) in omega (arith, w.0, r)

rising : (n : ℕ) (fs : List Fact) (i j : ℕ) (d : Fact) → are_from n fs ≡ true → i ≤ j → j < length fs → (get_or fs i d).variable ≤ (get_or fs j d).variable
rising n [] i j d h l m = absurd (omega (arith, m))
rising n (f ∷ fs) zero zero d h l m = omega arith
rising n (f ∷ fs) zero (suc j) d h l m =
    let r = at_least (f.variable + 1) fs j d (from_parts n f fs h).1 (omega (arith, m)) in omega (arith, r)
rising n (f ∷ fs) (suc i) zero d h l m = absurd (omega (arith, l))
rising n (f ∷ fs) (suc i) (suc j) d h l m = rising (f.variable + 1) fs i j d (from_parts n f fs h).1 (omega (arith, l)) (omega (arith, m))

-- what a search finds
abbrev Found : List Fact → ℕ → Fact → Result ℕ ℕ → Type 0
Found fs k d (Ok i) = (i < length fs) × ((get_or fs i d).variable ≡ k)
Found fs k d (Err i) =
    (i ≤ length fs) × ((j : ℕ) → j < i → (get_or fs j d).variable < k) × ((j : ℕ) → i ≤ j → j < length fs → k < (get_or fs j d).variable)

found_place : (n : ℕ) (fs : List Fact) (k : ℕ) (d : Fact) (r : Result ℕ ℕ) → are_from n fs ≡ true → Found fs k d r → r ≡ place_in fs k
found_place n [] k d (Ok i) h w = absurd (omega (arith, w.0))
found_place n [] k d (Err zero) h w = refl
found_place n [] k d (Err (suc i)) h w = absurd (omega (arith, w.0))
found_place n (f ∷ fs) k d (Ok zero) h w =
    let a : ltb f.variable k ≡ false = not_below f.variable k (omega (arith, w.1)) in
    let b : eqb f.variable k ≡ true = eq-eqb f.variable k w.1 in
    rw (a, b) refl
found_place n (f ∷ fs) k d (Ok (suc i)) h w =
    let p = from_parts n f fs h in
    let up = at_least (f.variable + 1) fs i d p.1 (omega (arith, w.0)) in
    let a : ltb f.variable k ≡ true = lt-ltb f.variable k (omega (arith, up, w.1)) in
    let s : suc i ≡ i + 1 = omega arith in
    rw a (ap Ok s ∙ ap one_more (found_place (f.variable + 1) fs k d (Ok i) p.1 (omega (arith, w.0), w.1)))
found_place n (f ∷ fs) k d (Err zero) h w =
    let here : k < f.variable = w.2 zero (omega arith) (omega arith) in
    let a : ltb f.variable k ≡ false = not_below f.variable k (omega (arith, here)) in
    let b : eqb f.variable k ≡ false = not_same f.variable k (λ q. omega (arith, here, q)) in
    rw (a, b) refl
found_place n (f ∷ fs) k d (Err (suc i)) h w =
    let here : f.variable < k = w.1 zero (omega arith) in
    let a : ltb f.variable k ≡ true = lt-ltb f.variable k here in
    let s : suc i ≡ i + 1 = omega arith in
    rw a (ap Err s ∙ ap one_more (found_place (f.variable + 1) fs k d (Err i) (from_parts n f fs h).1
    (omega (arith, w.0), (λ j l. w.1 (suc j) (omega (arith, l))), (λ j l m. w.2 (suc j) (omega (arith, l)) (omega (arith, m))))))

search_found : (fs : List Fact) (k : ℕ) (d : Fact) (r : Result ℕ ℕ) → are_from 0 fs ≡ true → IsSearchInRange r (length fs)
    → IsBinarySearchResult (λ f. nat_cmp f.variable k) fs r → Found fs k d r
search_found fs k d (Ok i) h within equal = (within, ranked _ k _ (sym (equal d)))
search_found fs k d (Err i) h within parted =
    let up : IsNonDecreasingBy (λ f. ordering_index (nat_cmp f.variable k)) fs =
    IsNonDecreasingBy-from_default (λ f. ordering_index (nat_cmp f.variable k)) fs d (λ i j le lt.
    let rise = rising 0 fs i j d h le lt in grind (arith, nat_tests, rise)) in
    (within, (λ j lt. ranked _ k _ (sym ((parted up).0 j d (omega arith) lt))), (λ j le lt. ranked _ k _ (sym ((parted up).1 j d le lt))))

pub searched : (fs : List Fact) (k : ℕ) (r : Result ℕ ℕ) → are_from 0 fs ≡ true → IsSearchInRange r (length fs)
    → IsBinarySearchResult (λ f. nat_cmp f.variable k) fs r → r ≡ place_in fs k
searched fs k r h within is =
    let d : Fact = record { variable = 0; value = 0 } in found_place 0 fs k d r h (search_found fs k d r h within is)

-- the fact at the place that is found

shifted_ok : (r : Result ℕ ℕ) (i : ℕ) → one_more r ≡ Ok i → (j : ℕ) × (r ≡ Ok j) × (i ≡ suc j)
shifted_ok (Ok j) i e = let q : j + 1 ≡ i = cc e in (j, refl, omega (arith, q))
shifted_ok (Err j) i e = cc e

shifted_err : (r : Result ℕ ℕ) (i : ℕ) → one_more r ≡ Err i → (j : ℕ) × (r ≡ Err j) × (i ≡ suc j)
shifted_err (Err j) i e = let q : j + 1 ≡ i = cc e in (j, refl, omega (arith, q))
shifted_err (Ok j) i e = cc e

pub set_found : (fs : List Fact) (new : Fact) (i : ℕ) → place_in fs new.variable ≡ Ok i → set fs i new ≡ set_fact fs new
set_found [] new i e = cc e
set_found (f ∷ fs) new i e = go (ltb f.variable new.variable) (eqb f.variable new.variable) e (set_found fs new)
  where
    go : (a b : Bool) → cond a (one_more (place_in fs new.variable)) (cond b (Ok 0) (Err 0)) ≡ Ok i
        → ((i : ℕ) → place_in fs new.variable ≡ Ok i → set fs i new ≡ set_fact fs new)
        → set (f ∷ fs) i new ≡ cond a (f ∷ set_fact fs new) (cond b (new ∷ fs) (new ∷ f ∷ fs))
    go true b e ih = let w = shifted_ok (place_in fs new.variable) i e in rw w.2 (ap (λ l. f ∷ l) (ih w.0 w.1))
    go false true e ih = let q : 0 ≡ i = cc e in rw (← q) refl
    go false false e ih = cc e

pub set_absent : (fs : List Fact) (new : Fact) (i : ℕ) → place_in fs new.variable ≡ Err i → insert fs i new ≡ set_fact fs new
set_absent [] new i e = let q : 0 ≡ i = cc e in rw (← q) refl
set_absent (f ∷ fs) new i e = go (ltb f.variable new.variable) (eqb f.variable new.variable) e (set_absent fs new)
  where
    go : (a b : Bool) → cond a (one_more (place_in fs new.variable)) (cond b (Ok 0) (Err 0)) ≡ Err i
        → ((i : ℕ) → place_in fs new.variable ≡ Err i → insert fs i new ≡ set_fact fs new)
        → insert (f ∷ fs) i new ≡ cond a (f ∷ set_fact fs new) (cond b (new ∷ fs) (new ∷ f ∷ fs))
    go true b e ih = let w = shifted_err (place_in fs new.variable) i e in rw w.2 (ap (λ l. f ∷ l) (ih w.0 w.1))
    go false true e ih = cc e
    go false false e ih = let q : 0 ≡ i = cc e in rw (← q) refl

pub absent_within : (fs : List Fact) (k i : ℕ) → place_in fs k ≡ Err i → i ≤ length fs
absent_within [] k i e = let q : 0 ≡ i = cc e in omega (arith, q)
absent_within (f ∷ fs) k i e = go (ltb f.variable k) (eqb f.variable k) e (absent_within fs k)
  where
    go : (a b : Bool) → cond a (one_more (place_in fs k)) (cond b (Ok 0) (Err 0)) ≡ Err i → ((i : ℕ) → place_in fs k ≡ Err i → i ≤ length fs) → i ≤ suc (length fs)
    go true b e ih = let w = shifted_err (place_in fs k) i e in omega (arith, w.2, ih w.0 w.1)
    go false true e ih = cc e
    go false false e ih = let q : 0 ≡ i = cc e in omega (arith, q)

pub value_found : (fs : List Fact) (k i : ℕ) (d : Fact) → place_in fs k ≡ Ok i → value_at fs k ≡ Some (get_or fs i d).value
value_found [] k i d e = cc e
value_found (f ∷ fs) k i d e = go (ltb f.variable k) (eqb f.variable k) refl refl e (value_found fs k)
  where
    go : (a b : Bool) → ltb f.variable k ≡ a → eqb f.variable k ≡ b → cond a (one_more (place_in fs k)) (cond b (Ok 0) (Err 0)) ≡ Ok i
        → ((i : ℕ) (d : Fact) → place_in fs k ≡ Ok i → value_at fs k ≡ Some (get_or fs i d).value)
        → cond b (Some f.value) (value_at fs k) ≡ Some (get_or (f ∷ fs) i d).value
    go true true p q e ih = absurd (omega (arith, ltb-true f.variable k p, eqb-true f.variable k q))
    go true false p q e ih = let w = shifted_ok (place_in fs k) i e in rw w.2 (ih w.0 d w.1)
    go false true p q e ih = let z : 0 ≡ i = cc e in rw (← z) refl
    go false false p q e ih = cc e

pub value_absent : (n : ℕ) (fs : List Fact) (k i : ℕ) → are_from n fs ≡ true → place_in fs k ≡ Err i → value_at fs k ≡ None
value_absent n [] k i h e = refl
value_absent n (f ∷ fs) k i h e = go (ltb f.variable k) (eqb f.variable k) refl refl e (λ j. value_absent (f.variable + 1) fs k j (from_parts n f fs h).1)
  where
    go : (a b : Bool) → ltb f.variable k ≡ a → eqb f.variable k ≡ b → cond a (one_more (place_in fs k)) (cond b (Ok 0) (Err 0)) ≡ Err i
        → ((j : ℕ) → place_in fs k ≡ Err j → value_at fs k ≡ None)
        → cond b (Some f.value) (value_at fs k) ≡ None
    go true true p q e ih = absurd (omega (arith, ltb-true f.variable k p, eqb-true f.variable k q))
    go true false p q e ih = let w = shifted_err (place_in fs k) i e in ih w.0 w.1
    go false true p q e ih = cc e
    go false false p q e ih =
        let l = ltb-false f.variable k p in
        none_below (f.variable + 1) fs k (from_parts n f fs h).1 (omega (arith, l))

-- the facts after one is set

pub set_from : (n : ℕ) (fs : List Fact) (new : Fact) → are_from n fs ≡ true → n ≤ new.variable → are_from n (set_fact fs new) ≡ true
set_from n [] new h l = from_both n new [] l refl
set_from n (f ∷ fs) new h l = go (ltb f.variable new.variable) (eqb f.variable new.variable) refl refl (set_from (f.variable + 1) fs new (from_parts n f fs h).1)
  where
    go : (a b : Bool) → ltb f.variable new.variable ≡ a → eqb f.variable new.variable ≡ b
        → (f.variable + 1 ≤ new.variable → are_from (f.variable + 1) (set_fact fs new) ≡ true)
        → are_from n (cond a (f ∷ set_fact fs new) (cond b (new ∷ fs) (new ∷ f ∷ fs))) ≡ true
    go true b p q ih =
        let up = ltb-true f.variable new.variable p in
        from_both n f (set_fact fs new) (from_parts n f fs h).0 (ih (omega (arith, up)))
    go false true p q ih =
        let same = eqb-true f.variable new.variable q in
        from_both n new fs l (from_lower (new.variable + 1) (f.variable + 1) fs (omega (arith, same)) (from_parts n f fs h).1)
    go false false p q ih =
        let low = ltb-false f.variable new.variable p in
        let differ : f.variable ≢ new.variable = λ e. cc (eq-eqb f.variable new.variable e, q) in
        from_both n new (f ∷ fs) l (from_both (new.variable + 1) f fs (omega (arith, low, differ)) (from_parts n f fs h).1)

pub value_set : (fs : List Fact) (new : Fact) → value_at (set_fact fs new) new.variable ≡ Some new.value
value_set [] new = rw (eq-eqb new.variable new.variable refl) refl
value_set (f ∷ fs) new = go (ltb f.variable new.variable) (eqb f.variable new.variable) refl refl (value_set fs new)
  where
    go : (a b : Bool) → ltb f.variable new.variable ≡ a → eqb f.variable new.variable ≡ b → value_at (set_fact fs new) new.variable ≡ Some new.value
        → value_at (cond a (f ∷ set_fact fs new) (cond b (new ∷ fs) (new ∷ f ∷ fs))) new.variable ≡ Some new.value
    go true true p q ih = absurd (omega (arith, ltb-true f.variable new.variable p, eqb-true f.variable new.variable q))
    go true false p q ih = rw q ih
    go false true p q ih = rw (eq-eqb new.variable new.variable refl) refl
    go false false p q ih = rw (eq-eqb new.variable new.variable refl) refl

pub value_other : (fs : List Fact) (new : Fact) (k : ℕ) → new.variable ≢ k → value_at (set_fact fs new) k ≡ value_at fs k
value_other [] new k n = rw (not_same new.variable k n) refl
value_other (f ∷ fs) new k n = go (ltb f.variable new.variable) (eqb f.variable new.variable) refl (value_other fs new k n)
  where
    go : (a b : Bool) → eqb f.variable new.variable ≡ b → value_at (set_fact fs new) k ≡ value_at fs k
        → value_at (cond a (f ∷ set_fact fs new) (cond b (new ∷ fs) (new ∷ f ∷ fs))) k ≡ cond (eqb f.variable k) (Some f.value) (value_at fs k)
    go true b q ih = rw ih refl
    go false true q ih =
        let same = eqb-true f.variable new.variable q in
        let e : eqb f.variable k ≡ false = not_same f.variable k (λ z. n (sym same ∙ z)) in
        rw (not_same new.variable k n, e) refl
    go false false q ih = rw (not_same new.variable k n) refl

-- the facts after those are set that elements give

module _ {X : Type 0} (given : X → Option Fact) where
  pub assigned_from : (xs : List X) (fs : List Fact) → are_from 0 fs ≡ true → are_from 0 (assigned given fs xs) ≡ true
  assigned_from [] fs h = h
  assigned_from (x ∷ xs) fs h = assigned_from xs (with_fact fs (given x)) (go (given x))
    where
      go : (o : Option Fact) → are_from 0 (with_fact fs o) ≡ true
      go None = h
      go (Some f) = set_from 0 fs f h (omega arith)

  -- the value is that of an element, or no element names the variable and the value stays
  abbrev pub Assigned : List Fact → List X → ℕ → Type 0
  Assigned fs xs k =
      record { x : X; f : Fact; there : Mem x xs; gives : given x ≡ Some f; here : f.variable ≡ k; value : value_at (assigned given fs xs) k ≡ Some f.value }
      ⊎ record { none : (x : X) (f : Fact) → Mem x xs → given x ≡ Some f → f.variable ≢ k; value : value_at (assigned given fs xs) k ≡ value_at fs k }

  pub assigned_value : (xs : List X) (fs : List Fact) (k : ℕ) → Assigned fs xs k
  assigned_value [] fs k = inr (record { none = λ x f m. absurd m; value = refl })
  assigned_value (x ∷ xs) fs k = go (given x) refl (assigned_value xs (with_fact fs (given x)) k)
    where
      go : (o : Option Fact) → given x ≡ o → Assigned (with_fact fs (given x)) xs k → Assigned fs (x ∷ xs) k
      go o e (inl w) = inl (record { x = w.x; f = w.f; there = inr w.there; gives = w.gives; here = w.here; value = w.value })
      go None e (inr w) = inr (record {
        none = λ y f m q. none y f m q;
        value = w.value ∙ ap (λ (o : Option Fact). value_at (with_fact fs o) k) e;
      })
        where
          none : (y : X) (f : Fact) → Mem y (x ∷ xs) → given y ≡ Some f → f.variable ≢ k
          none y f (inl s) q = let z : given x ≡ Some f = ap given s ∙ q in cc
          none y f (inr m) q = w.none y f m q
      go (Some f) e (inr w) = by (eqb f.variable k) refl
        where
          by : (b : Bool) → eqb f.variable k ≡ b → Assigned fs (x ∷ xs) k
          by true q =
              let same = eqb-true f.variable k q in
              inl (record {
                x = x;
                f = f;
                there = inl refl;
                gives = e;
                here = same;
                value = w.value ∙ ap (λ (o : Option Fact). value_at (with_fact fs o) k) e ∙ ap (value_at (set_fact fs f)) (sym same) ∙ value_set fs f;
              })
          by false q =
              let differ : f.variable ≢ k = λ z. cc (eq-eqb f.variable k z, q) in
              inr (record {
                none = λ y g m r. none differ y g m r;
                value = w.value ∙ ap (λ (o : Option Fact). value_at (with_fact fs o) k) e ∙ value_other fs f k differ;
              })
            where
              none : f.variable ≢ k → (y : X) (g : Fact) → Mem y (x ∷ xs) → given y ≡ Some g → g.variable ≢ k
              none differ y g (inl s) r = let z : given x ≡ Some g = ap given s ∙ r in let same : f ≡ g = cc in rw (← same) differ
              none differ y g (inr m) r = w.none y g m r
