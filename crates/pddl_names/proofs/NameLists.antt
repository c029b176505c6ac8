-- Names and their numbers, over variables: how they follow from one another, and what further names do to them.
use Rattle.std.proofs.Common.{◌≡◌, ◌<◌, ◌≤◌, ◌+◌, suc, zero, ℕ, Bool, true, false, cond, if◌then◌else◌, ◌||◌, ltb, List, [], ◌∷◌, ◌++◌, length, slice_get, Option, Some, None, is_some, unwrap_or, refl, sym, ap, subst, ◌∙◌, arith, true≢false, length-append}
use Rattle.std.proofs.Math.Nat.{add_comm}
use Rattle.std.proofs.Math.Numerals.{add-one}
use Rattle.std.proofs.lemmas.Bool.{ltb-true, ltb-false, lt-ltb, le-ltb}
use Rattle.std.proofs.lemmas.Bool.Decides.{nat_tests}
use Rattle.std.proofs.lemmas.Cmp.{nat_list_eq_equiv}
use Rattle.std.proofs.lemmas.List.{append-nil}
use Rattle.std.proofs.lemmas.List.Recursion.{is_position_or_len}
use Rattle.std.proofs.lemmas.Option.{none-some, same_Some, slice_get_within, cond_some}
use Rattle.std.specs.Cmp.Lexicographic.{bytes_decides}
use Rattle.pddl_names.specs.Names.{same_text, place_of, number_of, is_there, with_name, AreDistinct}

-- ---- the same text

pub same_text-itself : (t : List ℕ) → same_text t t ≡ true
same_text-itself t = nat_list_eq_equiv.refl t

pub same_text-flip : (a b : List ℕ) → same_text a b ≡ same_text b a
same_text-flip a b = nat_list_eq_equiv.symm a b

pub same_text-true : (a b : List ℕ) → same_text a b ≡ true → a ≡ b
same_text-true a b = (bytes_decides a b).0

pub same_text-equal : (a b : List ℕ) → a ≡ b → same_text a b ≡ true
same_text-equal a b = (bytes_decides a b).1

-- ---- one name and those behind it

-- numbers one apart from others compare as these
ltb-suc : (a b : ℕ) → ltb (suc a) (suc b) ≡ ltb a b
ltb-suc a b = grind (arith, nat_tests)

module _ (s t : List ℕ) (ss : List (List ℕ)) where
  pub number_of-here : same_text s t ≡ true → number_of (s ∷ ss) t ≡ 0
  number_of-here e = ap (λ (b : Bool). if b then 0 else number_of ss t + 1) e

  pub number_of-behind : same_text s t ≡ false → number_of (s ∷ ss) t ≡ number_of ss t + 1
  number_of-behind e = ap (λ (b : Bool). if b then 0 else number_of ss t + 1) e

  pub is_there-here : same_text s t ≡ true → is_there (s ∷ ss) t ≡ true
  is_there-here e =
      ap (λ (n : ℕ). ltb n (suc (length ss))) (number_of-here e) ∙ lt-ltb 0 (suc (length ss)) (omega arith)

  pub is_there-behind : same_text s t ≡ false → is_there (s ∷ ss) t ≡ is_there ss t
  is_there-behind e =
      ap (λ (n : ℕ). ltb n (suc (length ss))) (number_of-behind e ∙ add-one (number_of ss t))
      ∙ ltb-suc (number_of ss t) (length ss)

  pub is_there-cons : is_there (s ∷ ss) t ≡ (same_text s t || is_there ss t)
  is_there-cons = by (same_text s t) refl
    where
      by : (b : Bool) → same_text s t ≡ b → is_there (s ∷ ss) t ≡ (same_text s t || is_there ss t)
      by true e = is_there-here e ∙ sym (ap (λ (b : Bool). b || is_there ss t) e)
      by false e = is_there-behind e ∙ sym (ap (λ (b : Bool). b || is_there ss t) e)

-- ---- the number, the place, and whether a name is there

pub number_of-within : (names : List (List ℕ)) (t : List ℕ) → number_of names t ≤ length names
number_of-within [] t = omega arith
number_of-within (s ∷ ss) t = by (same_text s t) refl (number_of-within ss t)
  where
    by : (b : Bool) → same_text s t ≡ b → number_of ss t ≤ length ss → number_of (s ∷ ss) t ≤ length (s ∷ ss)
    by true e later = omega (arith, number_of-here s t ss e)
    by false e later = omega (arith, number_of-behind s t ss e, later)

module _ (names : List (List ℕ)) (t : List ℕ) where
  pub number_of-there : is_there names t ≡ true → number_of names t < length names
  number_of-there h = ltb-true (number_of names t) (length names) h

  pub number_of-absent : is_there names t ≡ false → number_of names t ≡ length names
  number_of-absent h = omega (arith, ltb-false (number_of names t) (length names) h, number_of-within names t)

  pub is_there-number : number_of names t < length names → is_there names t ≡ true
  is_there-number h = lt-ltb (number_of names t) (length names) h

  pub is_there-absent : number_of names t ≡ length names → is_there names t ≡ false
  is_there-absent h = le-ltb (number_of names t) (length names) (omega (arith, h))

  -- the place is the number, where the name is there
  pub place_of-number : place_of names t ≡ cond (is_there names t) (Some (number_of names t)) None
  place_of-number =
      ap (λ (n : ℕ). cond (ltb n (length names)) (Some n) None)
      (sym (is_position_or_len (λ (ss : List (List ℕ)). number_of ss t) (λ (s : List ℕ). same_text s t) refl
      (λ s ss. ap (cond (same_text s t) 0) (add_comm (number_of ss t) 1)) names))

  pub place_of-there : is_there names t ≡ true → place_of names t ≡ Some (number_of names t)
  place_of-there h = place_of-number ∙ ap (λ (b : Bool). cond b (Some (number_of names t)) None) h

  pub place_of-absent : is_there names t ≡ false → place_of names t ≡ None
  place_of-absent h = place_of-number ∙ ap (λ (b : Bool). cond b (Some (number_of names t)) None) h

  pub is_some-place_of : is_some (place_of names t) ≡ is_there names t
  is_some-place_of = by (is_there names t) refl
    where
      by : (b : Bool) → is_there names t ≡ b → is_some (place_of names t) ≡ is_there names t
      by true e = ap is_some (place_of-there e) ∙ sym e
      by false e = ap is_some (place_of-absent e) ∙ sym e

  pub is_there-place : (n : ℕ) → place_of names t ≡ Some n → is_there names t ≡ true
  is_there-place n h = (cond_some (is_there names t) (number_of names t) n (sym place_of-number ∙ h)).0

  pub number_of-place : (n : ℕ) → place_of names t ≡ Some n → number_of names t ≡ n
  number_of-place n h = (cond_some (is_there names t) (number_of names t) n (sym place_of-number ∙ h)).1

  pub unwrap_or-place_of : unwrap_or (place_of names t) (length names) ≡ number_of names t
  unwrap_or-place_of = by (is_there names t) refl
    where
      by : (b : Bool) → is_there names t ≡ b → unwrap_or (place_of names t) (length names) ≡ number_of names t
      by true e = ap (λ (o : Option ℕ). unwrap_or o (length names)) (place_of-there e)
      by false e = ap (λ (o : Option ℕ). unwrap_or o (length names)) (place_of-absent e) ∙ sym (number_of-absent e)

  pub is_there-no_place : place_of names t ≡ None → is_there names t ≡ false
  is_there-no_place h = sym is_some-place_of ∙ ap is_some h

-- ---- the name at a place

-- the name with the number of t is t
pub slice_get-number : (names : List (List ℕ)) (t : List ℕ) → is_there names t ≡ true → slice_get names (number_of names t) ≡ Some t
slice_get-number [] t h = absurd (true≢false (sym h))
slice_get-number (s ∷ ss) t h = by (same_text s t) refl (slice_get-number ss t)
  where
    by : (b : Bool) → same_text s t ≡ b → (is_there ss t ≡ true → slice_get ss (number_of ss t) ≡ Some t) → slice_get (s ∷ ss) (number_of (s ∷ ss) t) ≡ Some t
    by true e later = ap (slice_get (s ∷ ss)) (number_of-here s t ss e) ∙ ap Some (same_text-true s t e)
    by false e later =
        ap (slice_get (s ∷ ss)) (number_of-behind s t ss e ∙ add-one (number_of ss t))
        ∙ later (sym (is_there-behind s t ss e) ∙ h)

pub slice_get-place : (names : List (List ℕ)) (t : List ℕ) (n : ℕ) → place_of names t ≡ Some n → slice_get names n ≡ Some t
slice_get-place names t n h =
    ap (slice_get names) (sym (number_of-place names t n h)) ∙ slice_get-number names t (is_there-place names t n h)

-- the number is the first of the places
pub number_of-at_most : (names : List (List ℕ)) (n : ℕ) (t : List ℕ) → slice_get names n ≡ Some t → number_of names t ≤ n
number_of-at_most [] n t h = absurd (none-some t h)
number_of-at_most (s ∷ ss) zero t h = omega (arith, number_of-here s t ss (same_text-equal s t (same_Some s t h)))
number_of-at_most (s ∷ ss) (suc n) t h = by (same_text s t) refl (number_of-at_most ss n t h)
  where
    by : (b : Bool) → same_text s t ≡ b → number_of ss t ≤ n → number_of (s ∷ ss) t ≤ suc n
    by true e later = omega (arith, number_of-here s t ss e)
    by false e later = omega (arith, number_of-behind s t ss e, later)

pub is_there-at : (names : List (List ℕ)) (n : ℕ) (t : List ℕ) → slice_get names n ≡ Some t → is_there names t ≡ true
is_there-at names n t h =
    is_there-number names t (omega (arith, number_of-at_most names n t h, slice_get_within names n t h))

-- two names that are there with one number are one
pub same_name : (names : List (List ℕ)) (a b : List ℕ) → is_there names a ≡ true → is_there names b ≡ true → number_of names a ≡ number_of names b → a ≡ b
same_name names a b ha hb e =
    same_Some a b (sym (slice_get-number names a ha) ∙ ap (slice_get names) e ∙ slice_get-number names b hb)

-- ---- names with more behind them

pub slice_get-front : (names more : List (List ℕ)) (n : ℕ) → n < length names → slice_get (names ++ more) n ≡ slice_get names n
slice_get-front [] more n h = absurd (omega (arith, h))
slice_get-front (s ∷ ss) more zero h = refl
slice_get-front (s ∷ ss) more (suc n) h = slice_get-front ss more n (omega (arith, h))

pub slice_get-last : (names : List (List ℕ)) (t : List ℕ) → slice_get (names ++ t ∷ []) (length names) ≡ Some t
slice_get-last [] t = refl
slice_get-last (s ∷ ss) t = slice_get-last ss t

module _ (more : List (List ℕ)) (t : List ℕ) where
  -- a name that is there keeps its number
  pub number_of-append_there : (names : List (List ℕ)) → is_there names t ≡ true → number_of (names ++ more) t ≡ number_of names t
  number_of-append_there [] h = absurd (true≢false (sym h))
  number_of-append_there (s ∷ ss) h = by (same_text s t) refl (number_of-append_there ss)
    where
      by : (b : Bool) → same_text s t ≡ b → (is_there ss t ≡ true → number_of (ss ++ more) t ≡ number_of ss t) → number_of (s ∷ ss ++ more) t ≡ number_of (s ∷ ss) t
      by true e later = number_of-here s t (ss ++ more) e ∙ sym (number_of-here s t ss e)
      by false e later =
          number_of-behind s t (ss ++ more) e
          ∙ ap (λ (n : ℕ). n + 1) (later (sym (is_there-behind s t ss e) ∙ h))
          ∙ sym (number_of-behind s t ss e)

  -- any other is numbered behind
  pub number_of-append_absent : (names : List (List ℕ)) → is_there names t ≡ false → number_of (names ++ more) t ≡ length names + number_of more t
  number_of-append_absent [] h = omega arith
  number_of-append_absent (s ∷ ss) h = by (same_text s t) refl (number_of-append_absent ss)
    where
      by : (b : Bool) → same_text s t ≡ b → (is_there ss t ≡ false → number_of (ss ++ more) t ≡ length ss + number_of more t) → number_of (s ∷ ss ++ more) t ≡ length (s ∷ ss) + number_of more t
      by true e later = absurd (true≢false (sym (is_there-here s t ss e) ∙ h))
      by false e later =
          omega (arith, number_of-behind s t (ss ++ more) e, later (sym (is_there-behind s t ss e) ∙ h))

  pub is_there-append : (names : List (List ℕ)) → is_there (names ++ more) t ≡ (is_there names t || is_there more t)
  is_there-append [] = refl
  is_there-append (s ∷ ss) = by (same_text s t) refl (is_there-append ss)
    where
      by : (b : Bool) → same_text s t ≡ b → is_there (ss ++ more) t ≡ (is_there ss t || is_there more t) → is_there (s ∷ ss ++ more) t ≡ (is_there (s ∷ ss) t || is_there more t)
      by true e later =
          is_there-here s t (ss ++ more) e ∙ sym (ap (λ (b : Bool). b || is_there more t) (is_there-here s t ss e))
      by false e later =
          is_there-behind s t (ss ++ more) e ∙ later
          ∙ sym (ap (λ (b : Bool). b || is_there more t) (is_there-behind s t ss e))

-- ---- one more name

module _ (names : List (List ℕ)) (s : List ℕ) where
  pub with_name-there : is_there names s ≡ true → with_name names s ≡ names
  with_name-there h = ap (λ (b : Bool). if b then names else names ++ s ∷ []) h

  pub with_name-new : is_there names s ≡ false → with_name names s ≡ names ++ s ∷ []
  with_name-new h = ap (λ (b : Bool). if b then names else names ++ s ∷ []) h

  -- it is the names with some behind them
  pub with_name-front : (more : List (List ℕ)) × (with_name names s ≡ names ++ more)
  with_name-front = by (is_there names s) refl
    where
      by : (b : Bool) → is_there names s ≡ b → (more : List (List ℕ)) × (with_name names s ≡ names ++ more)
      by true h = ([], with_name-there h ∙ sym (append-nil names))
      by false h = (s ∷ [], with_name-new h)

  pub length-with_name : length names ≤ length (with_name names s)
  length-with_name = omega (arith, ap length (with_name-front.1), length-append names (with_name-front.0))

  -- the names keep their places
  pub slice_get-with_name : (n : ℕ) → n < length names → slice_get (with_name names s) n ≡ slice_get names n
  slice_get-with_name n h =
      ap (λ (l : List (List ℕ)). slice_get l n) (with_name-front.1) ∙ slice_get-front names (with_name-front.0) n h

  -- and their numbers
  pub number_of-with_name_kept : (t : List ℕ) → is_there names t ≡ true → number_of (with_name names s) t ≡ number_of names t
  number_of-with_name_kept t h =
      ap (λ (l : List (List ℕ)). number_of l t) (with_name-front.1) ∙ number_of-append_there (with_name-front.0) t names h

  pub is_there-with_name_kept : (t : List ℕ) → is_there names t ≡ true → is_there (with_name names s) t ≡ true
  is_there-with_name_kept t h =
      is_there-number (with_name names s) t
      (omega (arith, number_of-with_name_kept t h, number_of-there names t h, length-with_name))

  pub place_of-with_name_kept : (t : List ℕ) (n : ℕ) → place_of names t ≡ Some n → place_of (with_name names s) t ≡ Some n
  place_of-with_name_kept t n h =
      let there : is_there names t ≡ true = is_there-place names t n h in
      place_of-there (with_name names s) t (is_there-with_name_kept t there)
      ∙ ap Some (number_of-with_name_kept t there ∙ number_of-place names t n h)

  -- the name has the number that it would get
  pub number_of-with_name : number_of (with_name names s) s ≡ number_of names s
  number_of-with_name = by (is_there names s) refl
    where
      by : (b : Bool) → is_there names s ≡ b → number_of (with_name names s) s ≡ number_of names s
      by true h = ap (λ (l : List (List ℕ)). number_of l s) (with_name-there h)
      by false h =
          ap (λ (l : List (List ℕ)). number_of l s) (with_name-new h) ∙ number_of-append_absent (s ∷ []) s names h
          ∙ omega (arith, number_of-here s s [] (same_text-itself s), number_of-absent names s h)

  pub is_there-with_name : (t : List ℕ) → is_there (with_name names s) t ≡ (is_there names t || same_text s t)
  is_there-with_name t = by (is_there names s) refl
    where
      at_last : (b : Bool) → same_text s t ≡ b → is_there (s ∷ []) t ≡ same_text s t
      at_last true e = is_there-here s t [] e ∙ sym e
      at_last false e = is_there-behind s t [] e ∙ sym e

      covered : is_there names s ≡ true → (b : Bool) → same_text s t ≡ b → is_there names t ≡ (is_there names t || same_text s t)
      covered h true e =
          let there : is_there names t ≡ true = subst (λ (u : List ℕ). is_there names u ≡ true) (same_text-true s t e) h in
          there ∙ sym (ap (λ (b : Bool). b || same_text s t) there)
      covered h false e = sym (ap (λ (b : Bool). is_there names t || b) e ∙ or_false (is_there names t))
        where
          or_false : (b : Bool) → (b || false) ≡ b
          or_false true = refl
          or_false false = refl

      by : (b : Bool) → is_there names s ≡ b → is_there (with_name names s) t ≡ (is_there names t || same_text s t)
      by true h = ap (λ (l : List (List ℕ)). is_there l t) (with_name-there h) ∙ covered h (same_text s t) refl
      by false h =
          ap (λ (l : List (List ℕ)). is_there l t) (with_name-new h) ∙ is_there-append (s ∷ []) t names
          ∙ ap (λ (b : Bool). is_there names t || b) (at_last (same_text s t) refl)

  pub is_there-with_name_itself : is_there (with_name names s) s ≡ true
  is_there-with_name_itself = is_there-with_name s ∙ ap (λ (b : Bool). is_there names s || b) (same_text-itself s) ∙ or_true (is_there names s)
    where
      or_true : (b : Bool) → (b || true) ≡ true
      or_true true = refl
      or_true false = refl

  -- any other name is not there as before
  pub number_of-with_name_absent : (t : List ℕ) → is_there names t ≡ false → same_text s t ≡ false → number_of (with_name names s) t ≡ length (with_name names s)
  number_of-with_name_absent t h e =
      number_of-absent (with_name names s) t
      (is_there-with_name t ∙ ap (λ (b : Bool). b || same_text s t) h ∙ e)

-- ---- no name twice

pub AreDistinct-number : (names : List (List ℕ)) → ((n : ℕ) (t : List ℕ) → slice_get names n ≡ Some t → number_of names t ≡ n) → AreDistinct names
AreDistinct-number names numbered n t h =
    place_of-there names t (is_there-at names n t h) ∙ ap Some (numbered n t h)

pub number_of-distinct : (names : List (List ℕ)) → AreDistinct names → (n : ℕ) (t : List ℕ) → slice_get names n ≡ Some t → number_of names t ≡ n
number_of-distinct names distinct n t h = number_of-place names t n (distinct n t h)

pub AreDistinct-none : AreDistinct []
AreDistinct-none n t h = absurd (none-some t h)

pub AreDistinct-with_name : (names : List (List ℕ)) (s : List ℕ) → AreDistinct names → AreDistinct (with_name names s)
AreDistinct-with_name names s distinct = by (is_there names s) refl
  where
    earlier : (n : ℕ) (t : List ℕ) → n < length names → slice_get (with_name names s) n ≡ Some t → number_of (with_name names s) t ≡ n
    earlier n t lt h =
        let at : slice_get names n ≡ Some t = sym (slice_get-with_name names s n lt) ∙ h in
        number_of-with_name_kept names s t (is_there-at names n t at) ∙ number_of-distinct names distinct n t at

    newest : is_there names s ≡ false → (n : ℕ) (t : List ℕ) → n ≡ length names → slice_get (with_name names s) n ≡ Some t → number_of (with_name names s) t ≡ n
    newest absent n t e h =
        let is : s ≡ t = same_Some s t
        (sym (slice_get-last names s) ∙ ap (slice_get (names ++ s ∷ [])) (sym e)
        ∙ sym (ap (λ (l : List (List ℕ)). slice_get l n) (with_name-new names s absent)) ∙ h) in
        subst (λ (u : List ℕ). number_of (with_name names s) u ≡ n) is
        (number_of-with_name names s ∙ number_of-absent names s absent ∙ sym e)

    by : (b : Bool) → is_there names s ≡ b → AreDistinct (with_name names s)
    by true there = subst AreDistinct (sym (with_name-there names s there)) distinct
    by false absent = AreDistinct-number (with_name names s) (λ n t h. at n t h (ltb n (length names)) refl)
      where
        at : (n : ℕ) (t : List ℕ) → slice_get (with_name names s) n ≡ Some t → (b : Bool) → ltb n (length names) ≡ b → number_of (with_name names s) t ≡ n
        at n t h true lt = earlier n t (ltb-true n (length names) lt) h
        at n t h false ge = newest absent n t (omega (arith, ltb-false n (length names) ge, slice_get_within (with_name names s) n t h, ap length (with_name-new names s absent), length-append names (s ∷ []))) h
