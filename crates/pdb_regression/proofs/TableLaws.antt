-- Classes under their keys are found at the abstract states that they enter.
use Rattle.std.proofs.Common.{◌≡◌, ℕ, zero, suc, ◌+◌, ◌/◌, ◌%◌, ◌<◌, eq-eqb, true, false, List, [], ◌∷◌, ◌++◌, length, map, take, get_or, set, refl, sym, ap, ◌∙◌, arith, Option, Some, None, subst, inl, inr, ⊎_elim, get_or-set_same, get_or-set_other}
use Rattle.std.specs.Prelude.{◌⊎◌, ◌↔◌, Contains, All, IsSomeAnd, slice_get, slice_set, slice_index_or}
use Rattle.std.specs.List.{list_all}
use Rattle.std.specs.Option.{option_map_or}
use Rattle.std.proofs.Math.Seq.{map-set_same}
use Rattle.std.proofs.Math.ListN.{get_or-map}
use Rattle.std.proofs.lemmas.List.{length-set, length-map, take_more}
use Rattle.std.proofs.lemmas.List.Elements.{All-push, Contains-append_left, Contains-push, Contains-push_cases}
use Rattle.std.proofs.lemmas.List.Folds.{list_all_at}
use Rattle.std.proofs.lemmas.Option.{slice_get_past}
use Rattle.std.proofs.lemmas.Bool.{and_from, cases_eq, eqb-true, false≢true, true_from_ne_false}
use Rattle.abstraction.specs.declared.digit.Digit.{Digit}
use Rattle.abstraction.specs.Digits.{value_of}
use Rattle.abstraction_groups.specs.declared.change.Change.{Change}
use Rattle.abstraction_groups.specs.declared.change.Change.TheVariants.{Kept, Required, Moved, Assigned}
use Rattle.abstraction_groups.specs.declared.change.DigitChange.{DigitChange}
use Rattle.abstraction_groups.specs.declared.backward.Transition.{Transition}
use Rattle.abstraction_groups.specs.Changes.{LeadsAt, LeadsBy}
use Rattle.pdb_regression.specs.Changes.{asked, enters_at, enters_digit}
use Rattle.pdb_regression.specs.declared.place.Position.{Position}
use Rattle.pdb_regression.specs.Tables.{enters, LeadsIn, no_change, IsKey, Place, IsPositionIn, IsReadAt, positions_of, list_at, IsAdded, no_position, no_place, IsUnder, IsListed, AreIndexed}

-- ---- one place

pub added_is : (at : Position) (lists new : List (List ℕ)) (v o : ℕ) → v < length lists → new ≡ slice_set lists v (slice_index_or lists v [] ++ o ∷ []) →
    IsAdded (record { position = at; lists = lists }) (record { position = at; lists = new }) v o
added_is at lists new v o l e =
    record {
      position = refl;
      kept = λ j p has. ⊎_elim (same j p has) (other j p has) (cases_eq (value_of d j) v);
      added = λ j here. subst (λ (xs : List ℕ). Contains xs o) (sym (at_value j here)) (Contains-push (get_or lists v []) o);
    }
  where
    d : Digit
    d = at.digit

    at_value : (j : ℕ) → value_of d j ≡ v → get_or new (value_of d j) [] ≡ get_or lists v [] ++ o ∷ []
    at_value j here = ap (λ (n : ℕ). get_or new n []) here ∙ ap (λ (xs : List (List ℕ)). get_or xs v []) e ∙ get_or-set_same lists v (get_or lists v [] ++ o ∷ []) [] l

    same : (j p : ℕ) → Contains (get_or lists (value_of d j) []) p → value_of d j ≡ v → Contains (get_or new (value_of d j) []) p
    same j p has here =
        subst (λ (xs : List ℕ). Contains xs p) (sym (at_value j here))
        (Contains-append_left (get_or lists v []) (o ∷ []) p (subst (λ (n : ℕ). Contains (get_or lists n []) p) here has))

    other : (j p : ℕ) → Contains (get_or lists (value_of d j) []) p → (value_of d j ≡ v → ⊥) → Contains (get_or new (value_of d j) []) p
    other j p has there =
        subst (λ (xs : List ℕ). Contains xs p)
        (sym (ap (λ (xs : List (List ℕ)). get_or xs (value_of d j) []) e ∙ get_or-set_other lists v (value_of d j) (get_or lists v [] ++ o ∷ []) [] there)) has

-- ---- a change enters where it leads

is_entered : (change : Change) (x y : ℕ) → LeadsAt change x y → enters_at change y ≡ true
is_entered Kept x y h = refl
is_entered (Required c) x y h = eq-eqb y c h.1
is_entered (Moved from to) x y h = eq-eqb y to h.1
is_entered (Assigned e) x y h = eq-eqb y e h

pub all_enter : (cs : List DigitChange) (i j : ℕ) → LeadsBy cs i j → list_all (enters_digit j) cs ≡ true
all_enter [] i j h = refl
all_enter (c ∷ cs) i j h =
    and_from (enters_digit j c) (list_all (enters_digit j) cs) (is_entered c.change (i % c.digit.range) (value_of c.digit j) h.0) (all_enter cs (i / c.digit.range) j h.1)

-- ---- keys

asked_entered : (change : Change) (v y : ℕ) → asked change ≡ Some v → enters_at change y ≡ true → y ≡ v
asked_entered Kept v y e t = absurd (cc)
asked_entered (Required c) v y e t = let here : y ≡ c = eqb-true y c t in let there : c ≡ v = cc in here ∙ there
asked_entered (Moved from to) v y e t = let here : y ≡ to = eqb-true y to t in let there : to ≡ v = cc in here ∙ there
asked_entered (Assigned x) v y e t = let here : y ≡ x = eqb-true y x t in let there : x ≡ v = cc in here ∙ there

key_entered : (changes : List DigitChange) (k v j : ℕ) → k < length changes → asked (get_or changes k no_change).change ≡ Some v → list_all (enters_digit j) changes ≡ true →
    value_of (get_or changes k no_change).digit j ≡ v
key_entered changes k v j within at e =
    asked_entered (get_or changes k no_change).change v (value_of (get_or changes k no_change).digit j) at
    (true_from_ne_false (enters_digit j (get_or changes k no_change))
    (λ no'. false≢true (sym (list_all_at (enters_digit j) changes k no_change within no') ∙ e)))

digit_at : (changes : List DigitChange) (n : ℕ) (d : Digit) → slice_get (map (λ c. c.digit) changes) n ≡ Some d → (n < length changes) × ((get_or changes n no_change).digit ≡ d)
digit_at [] n d e = let none = slice_get_past {X = Digit} [] n (omega arith) in absurd (cc)
digit_at (c ∷ changes) zero d e = (omega arith, let same : c.digit ≡ d = cc in same)
digit_at (c ∷ changes) (suc n) d e = let rest = digit_at changes n d e in (omega (arith, rest.0), rest.1)

-- the position of a place is that of a change
pub position_at : (places : List Place) (changes : List DigitChange) (k : ℕ) → All (IsPositionIn (map (λ c. c.digit) changes)) (positions_of places) → k < length places →
    ((get_or places k no_place).position.number < length changes) × ((get_or changes (get_or places k no_place).position.number no_change).digit ≡ (get_or places k no_place).position.digit)
position_at places changes k all l =
    let long = length-map places (λ (p : Place). p.position) in
    let is : IsPositionIn (map (λ c. c.digit) changes) (get_or (map (λ (p : Place). p.position) places) k no_position) = all k no_position (omega arith) in
    let same : get_or (map (λ (p : Place). p.position) places) k no_position ≡ (get_or places k no_place).position = get_or-map (λ (p : Place). p.position) places k no_place in
    digit_at changes (get_or places k no_place).position.number (get_or places k no_place).position.digit (subst (IsPositionIn (map (λ c. c.digit) changes)) same is)

-- the list has the value at the digit of one place
pub place_read : (places : List Place) (values : List ℕ) (j k : ℕ) → All (IsReadAt values j) (positions_of places) → k < length places → IsReadAt values j (get_or places k no_place).position
place_read places values j k all l =
    let long = length-map places (λ (p : Place). p.position) in
    subst (IsReadAt values j) (get_or-map (λ (p : Place). p.position) places k no_place) (all k no_position (omega arith))

pub key_is : (places : List Place) (changes : List DigitChange) (k v : ℕ) → All (IsPositionIn (map (λ c. c.digit) changes)) (positions_of places) → k < length places →
    asked (get_or changes (get_or places k no_place).position.number no_change).change ≡ Some v → v < (get_or changes (get_or places k no_place).position.number no_change).digit.range → IsKey places changes k v
key_is places changes k v all l at below =
    let found = position_at places changes k all l in
    record {
      within = l;
      below = subst (λ (d : Digit). v < d.range) found.1 below;
      entered = λ j e. subst (λ (d : Digit). value_of d j ≡ v) found.1 (key_entered changes (get_or places k no_place).position.number v j found.0 at e);
    }

-- ---- all places

positions_push : (old : List Place) (p : Place) → positions_of (old ++ p ∷ []) ≡ positions_of old ++ p.position ∷ []
positions_push [] p = refl
positions_push (q ∷ old) p = ap (λ (ps : List Position). q.position ∷ ps) (positions_push old p)

slice_at : (ds : List Digit) (n : ℕ) (none : Digit) → n < length ds → slice_get ds n ≡ Some (get_or ds n none)
slice_at [] n none l = absurd (omega arith)
slice_at (d ∷ ds) zero none l = refl
slice_at (d ∷ ds) (suc n) none l = slice_at ds n none (omega arith)

-- one place more is at a digit
pub positions_more : (ds : List Digit) (old new : List Place) (p : Place) (n : ℕ) (none : Digit) → All (IsPositionIn ds) (positions_of old) → new ≡ old ++ p ∷ [] →
    p.position ≡ record { number = n; digit = get_or ds n none } → n < length ds → All (IsPositionIn ds) (positions_of new)
positions_more ds old new p n none before e at l =
    subst (All (IsPositionIn ds)) (sym (ap positions_of e ∙ positions_push old p))
    (All-push (IsPositionIn ds) (positions_of old) p.position before (subst (IsPositionIn ds) (sym at) (slice_at ds n none l)))

below_one : (m n : ℕ) → m < n + 1 → (m < n) ⊎ (m ≡ n)
below_one m n l = grind arith

-- one class more is listed under a value
pub indexed_more : (rest : List ℕ) (places new : List Place) (rows : List (List DigitChange)) (n k v : ℕ) (place : Place) → k < length places → new ≡ set places k place →
    IsAdded (get_or places k no_place) place v n → ((j : ℕ) → enters rows j n ≡ true → value_of (get_or places k no_place).position.digit j ≡ v) →
    AreIndexed rest places rows n → AreIndexed rest new rows (n + 1)
indexed_more rest places new rows n k v place l e added key indexed o j below en =
    subst (λ (ps : List Place). IsListed rest ps j o) (sym e)
    (⊎_elim
    (λ (a : o < n). ⊎_elim (λ (r : Contains rest o). inl r) (λ (u : IsUnder places (length places) j o). inr (before o u)) (indexed o j a en))
    (λ (a : o ≡ n). inr (subst (λ (m : ℕ). IsUnder (set places k place) (length (set places k place)) j m) (sym a) (newest (subst (λ (m : ℕ). enters rows j m ≡ true) a en))))
    (below_one o n below))
  where
    long : length (set places k place) ≡ length places
    long = length-set places k place

    here : get_or (set places k place) k no_place ≡ place
    here = get_or-set_same places k place no_place l

    newest : enters rows j n ≡ true → IsUnder (set places k place) (length (set places k place)) j n
    newest t = (k, omega (arith, long), subst (λ (p : Place). Contains (list_at j p) n) (sym here) (added.added j (key j t)))

    before : (p : ℕ) → IsUnder places (length places) j p → IsUnder (set places k place) (length (set places k place)) j p
    before p under =
        let m = under.1 in (
          under.0,
          omega (arith, long),
          ⊎_elim
              (λ (s : under.0 ≡ k).
              subst (λ (i : ℕ). Contains (list_at j (get_or (set places k place) i no_place)) p) (sym s)
              (subst (λ (q : Place). Contains (list_at j q) p) (sym here)
              (added.kept j p (subst (λ (i : ℕ). Contains (list_at j (get_or places i no_place)) p) s under.2))))
              (λ (s : under.0 ≡ k → ⊥). subst (λ (q : Place). Contains (list_at j q) p) (sym (get_or-set_other places k under.0 place no_place s)) under.2)
              (cases_eq under.0 k),
        )

-- one class more is among the rest
pub indexed_rest : (rest new : List ℕ) (places : List Place) (rows : List (List DigitChange)) (n : ℕ) → new ≡ rest ++ n ∷ [] → AreIndexed rest places rows n → AreIndexed new places rows (n + 1)
indexed_rest rest new places rows n e indexed o j below en =
    subst (λ (xs : List ℕ). IsListed xs places j o) (sym e)
    (⊎_elim
    (λ (a : o < n). ⊎_elim (λ (r : Contains rest o). inl (Contains-append_left rest (n ∷ []) o r)) (λ (u : IsUnder places (length places) j o). inr u) (indexed o j a en))
    (λ (a : o ≡ n). inl (subst (λ (m : ℕ). Contains (rest ++ n ∷ []) m) (sym a) (Contains-push rest n)))
    (below_one o n below))

pub positions_kept : (places : List Place) (k : ℕ) (place : Place) → place.position ≡ (get_or places k no_place).position → positions_of (set places k place) ≡ positions_of places
positions_kept places k place e = map-set_same (λ (p : Place). p.position) places k place no_place e

-- ---- what is found

-- the first classes of a list are those of an empty one and the rest
pub found_first : (rest : List ℕ) (places : List Place) (P : Transition → Type 0) (j : ℕ) (new : List Transition) →
    ((t : Transition) → Contains new t ↔ (Contains [] t ⊎ (Contains rest t.class × P t))) → (t : Transition) → Contains new t ↔ ((Contains rest t.class ⊎ IsUnder places 0 j t.class) × P t)
found_first rest places P j new known t = (
  λ h. ⊎_elim
      (λ (a : Contains [] t). absurd (none a))
      (λ (a : Contains rest t.class × P t). (inl a.0, a.1))
      ((known t).0 h),
  λ h. (known t).1 (inr (⊎_elim (λ (a : Contains rest t.class). a) (λ (a : IsUnder places 0 j t.class). let l = a.1 in absurd (omega arith)) h.0, h.1)),
)
  where
    none : Contains [] t → ⊥
    none a = let l = a.1 in absurd (omega arith)

-- one place more: what is listed there is found
pub found_more : (R : ℕ → Type 0) (places : List Place) (P : Transition → Type 0) (n j : ℕ) (old new : List Transition) (listed : List ℕ) → listed ≡ list_at j (get_or places n no_place) →
    ((t : Transition) → Contains old t ↔ ((R t.class ⊎ IsUnder places n j t.class) × P t)) → ((t : Transition) → Contains new t ↔ (Contains old t ⊎ (Contains listed t.class × P t))) →
    (t : Transition) → Contains new t ↔ ((R t.class ⊎ IsUnder places (n + 1) j t.class) × P t)
found_more R places P n j old new listed at known added t = (to, from)
  where
    to : Contains new t → (R t.class ⊎ IsUnder places (n + 1) j t.class) × P t
    to h = ⊎_elim
        (λ (a : Contains old t). let b = (known t).0 a in
        (⊎_elim (λ (r : R t.class). inl r) (λ (u : IsUnder places n j t.class). let l = u.1 in inr (u.0, omega arith, u.2)) b.0, b.1))
        (λ (a : Contains listed t.class × P t). (inr (n, omega arith, subst (λ (xs : List ℕ). Contains xs t.class) at a.0), a.1))
        ((added t).0 h)

    from : (R t.class ⊎ IsUnder places (n + 1) j t.class) × P t → Contains new t
    from h = (added t).1 (⊎_elim
        (λ (r : R t.class). inl ((known t).1 (inl r, h.1)))
        (λ (u : IsUnder places (n + 1) j t.class). ⊎_elim
        (λ (a : u.0 < n). inl ((known t).1 (inr (u.0, a, u.2), h.1)))
        (λ (a : u.0 ≡ n). inr (subst (λ (xs : List ℕ). Contains xs t.class) (sym at) (subst (λ (i : ℕ). Contains (list_at j (get_or places i no_place)) t.class) a u.2), h.1))
        (below_one u.0 n u.1))
        h.0)

-- one listed class more
pub listed_more : (classes : List ℕ) (P : Transition → Type 0) (k c : ℕ) (first old new : List Transition) → k < length classes → get_or classes k 0 ≡ c →
    ((t : Transition) → Contains old t ↔ (Contains first t ⊎ (Contains (take k classes) t.class × P t))) → ((t : Transition) → Contains new t ↔ (Contains old t ⊎ ((t.class ≡ c) × P t))) →
    (t : Transition) → Contains new t ↔ (Contains first t ⊎ (Contains (take (k + 1) classes) t.class × P t))
listed_more classes P k c first old new l at known added t = (to, from)
  where
    more : take (k + 1) classes ≡ take k classes ++ get_or classes k 0 ∷ []
    more = take_more classes k 0 l

    to : Contains new t → Contains first t ⊎ (Contains (take (k + 1) classes) t.class × P t)
    to h = ⊎_elim
        (λ (a : Contains old t). ⊎_elim
        (λ (b : Contains first t). inl b)
        (λ (b : Contains (take k classes) t.class × P t). inr (subst (λ (xs : List ℕ). Contains xs t.class) (sym more) (Contains-append_left (take k classes) (get_or classes k 0 ∷ []) t.class b.0), b.1))
        ((known t).0 a))
        (λ (a : (t.class ≡ c) × P t).
        inr (subst (λ (xs : List ℕ). Contains xs t.class) (sym more) (subst (λ (x : ℕ). Contains (take k classes ++ get_or classes k 0 ∷ []) x) (at ∙ sym a.0) (Contains-push (take k classes) (get_or classes k 0))), a.1))
        ((added t).0 h)

    from : Contains first t ⊎ (Contains (take (k + 1) classes) t.class × P t) → Contains new t
    from h = (added t).1 (⊎_elim
        (λ (a : Contains first t). inl ((known t).1 (inl a)))
        (λ (a : Contains (take (k + 1) classes) t.class × P t). ⊎_elim
        (λ (b : Contains (take k classes) t.class). inl ((known t).1 (inr (b, a.1))))
        (λ (b : get_or classes k 0 ≡ t.class). inr (sym b ∙ at, a.1))
        (Contains-push_cases (take k classes) (get_or classes k 0) t.class (subst (λ (xs : List ℕ). Contains xs t.class) more a.0)))
        h)

-- a rule's transitions are those of its class, and there is none without a rule
pub listed_rule : (rules : List (List DigitChange)) (j c : ℕ) (row : List DigitChange) (old new : List Transition) → slice_get rules c ≡ Some row →
    ((t : Transition) → Contains new t ↔ (Contains old t ⊎ ((t.class ≡ c) × LeadsBy row t.source j))) → (t : Transition) → Contains new t ↔ (Contains old t ⊎ ((t.class ≡ c) × LeadsIn rules t.class t.source j))
listed_rule rules j c row old new e known t = (
  λ h. ⊎_elim
      (λ (a : Contains old t). inl a)
      (λ (a : (t.class ≡ c) × LeadsBy row t.source j). inr (a.0, subst (λ (r : Option (List DigitChange)). IsSomeAnd r (λ cs. LeadsBy cs t.source j)) (sym (at a.0)) a.1))
      ((known t).0 h),
  λ h. (known t).1 (⊎_elim
      (λ (a : Contains old t). inl a)
      (λ (a : (t.class ≡ c) × LeadsIn rules t.class t.source j). inr (a.0, subst (λ (r : Option (List DigitChange)). IsSomeAnd r (λ cs. LeadsBy cs t.source j)) (at a.0) a.1))
      h),
)
  where
    at : t.class ≡ c → slice_get rules t.class ≡ Some row
    at same = ap (slice_get rules) same ∙ e

pub listed_none : (rules : List (List DigitChange)) (j c : ℕ) (old : List Transition) → slice_get rules c ≡ None →
    (t : Transition) → Contains old t ↔ (Contains old t ⊎ ((t.class ≡ c) × LeadsIn rules t.class t.source j))
listed_none rules j c old e t = (
  λ h. inl h,
  λ h. ⊎_elim
      (λ (a : Contains old t). a)
      (λ (a : (t.class ≡ c) × LeadsIn rules t.class t.source j). absurd (subst (λ (r : Option (List DigitChange)). IsSomeAnd r (λ cs. LeadsBy cs t.source j)) (ap (slice_get rules) a.0 ∙ e) a.1))
      h,
)

pub enters_is : (rows : List (List DigitChange)) (n j : ℕ) (row : List DigitChange) → slice_get rows n ≡ Some row → enters rows j n ≡ list_all (enters_digit j) row
enters_is rows n j row e = ap (λ (r : Option (List DigitChange)). option_map_or (λ changes. list_all (enters_digit j) changes) r false) e

pub enters_none : (rows : List (List DigitChange)) (n j : ℕ) → slice_get rows n ≡ None → enters rows j n ≡ false
enters_none rows n j e = ap (λ (r : Option (List DigitChange)). option_map_or (λ changes. list_all (enters_digit j) changes) r false) e

pub row_at : (rows : List (List DigitChange)) (n : ℕ) (row : List DigitChange) → n < length rows → row ≡ get_or rows n row → slice_get rows n ≡ Some row
row_at [] n row l e = absurd (omega arith)
row_at (r ∷ rows) zero row l e = ap Some (sym e)
row_at (r ∷ rows) (suc n) row l e = row_at rows n row (omega arith) e
