-- Facts of an assignment by their variables.
use Rattle.std.proofs.Common.{◌≡◌, ℕ, ◌<◌, Bool, true, false, List, [], ◌∷◌, length, Option, Some, None, refl, sym, ap, subst, ◌∙◌, arith, cond, eqb, ⊎_elim}
use Rattle.std.specs.Prelude.{All, Contains, not, unwrap_or, slice_index, slice_set}
use Rattle.std.specs.List.{list_all}
use Rattle.std.proofs.lemmas.Bool.{eqb-true, eqb-false, eq-eqb, ne_eqb, and_parts, or_parts, not-true}
use Rattle.std.proofs.lemmas.Option.{none-some, same_Some}
use Rattle.std.proofs.lemmas.List.{length-set, get_or-set_same, get_or-set_other, ext_get_or}
use Rattle.std.proofs.lemmas.List.Elements.{All-head, All-tail}
use Rattle.fdr.specs.declared.fact.Fact.{Fact}
use Rattle.fdr.specs.Tasks.{holds, with_values, names_variable, are_distinct}
use Rattle.abstraction.specs.Facts.{value_in}
use Rattle.reduction.specs.Facts.{fact}
use Rattle.reduction.specs.Retained.{SameFacts}
use Rattle.reduction.proofs.Members.{Contains-here, Contains-there, Contains-cases, all_at, all_from, any_from}

-- the value by the first fact, or else by the others
pub value_in-cons : (f : Fact) (fs : List Fact) (v : ℕ) (b : Bool) → eqb f.variable v ≡ b → value_in (f ∷ fs) v ≡ cond b (Some f.value) (value_in fs v)
value_in-cons f fs v true e = rw e refl
value_in-cons f fs v false e = rw e refl

-- a variable that no fact names has no value
unnamed_value : (fs : List Fact) (v : ℕ) → names_variable fs v ≡ false → value_in fs v ≡ None
unnamed_value [] v h = refl
unnamed_value (f ∷ fs) v h =
    let parts = or_parts (eqb f.variable v) (names_variable fs v) h in
    value_in-cons f fs v false parts.0 ∙ unnamed_value fs v parts.1

-- a value of a variable is that of a fact
pub value_has : (fs : List Fact) (v x : ℕ) → value_in fs v ≡ Some x → Contains fs (fact v x)
value_has [] v x h = absurd (none-some x h)
value_has (f ∷ fs) v x h = go (eqb f.variable v) refl (value_has fs v x)
  where
    go : (b : Bool) → eqb f.variable v ≡ b → (value_in fs v ≡ Some x → Contains fs (fact v x)) → Contains (f ∷ fs) (fact v x)
    go true e rest =
        let variable : f.variable ≡ v = eqb-true f.variable v e in
        let value : f.value ≡ x = same_Some f.value x (sym (value_in-cons f fs v true e) ∙ h) in
        let same : f ≡ fact v x = ap (λ (w : ℕ). fact w f.value) variable ∙ ap (λ (y : ℕ). fact v y) value in
        subst (Contains (f ∷ fs)) same (Contains-here f fs)
    go false e rest = Contains-there f (fact v x) fs (rest (sym (value_in-cons f fs v false e) ∙ h))

-- each fact gives its variable its value
pub value_of : (fs : List Fact) (f : Fact) → are_distinct fs ≡ true → Contains fs f → value_in fs f.variable ≡ Some f.value
value_of [] f d c = let l : c.0 < 0 = c.1 in absurd (omega arith)
value_of (g ∷ gs) f d c =
    let parts = and_parts (not (names_variable gs g.variable)) (are_distinct gs) d in
    let unnamed : names_variable gs g.variable ≡ false = not-true (names_variable gs g.variable) parts.0 in
    ⊎_elim
    (λ (e : g ≡ f). subst (λ (h : Fact). value_in (g ∷ gs) h.variable ≡ Some h.value) e (value_in-cons g gs g.variable true (eq-eqb g.variable g.variable refl)))
    (λ (k : Contains gs f).
    let other : eqb g.variable f.variable ≡ false =
    ne_eqb g.variable f.variable (λ (q : g.variable ≡ f.variable).
    let named : names_variable gs g.variable ≡ true = any_from (λ (h : Fact). eqb h.variable g.variable) gs f k (eq-eqb f.variable g.variable (sym q)) in cc (unnamed, named)) in
    value_in-cons g gs f.variable false other ∙ value_of gs f parts.1 k)
    (Contains-cases g f gs c)

-- a variable of a fact has a value
pub none_on : (fs : List Fact) (f : Fact) → are_distinct fs ≡ true → value_in fs f.variable ≡ None → Contains fs f → ⊥
none_on fs f d h c = none-some f.value (sym h ∙ value_of fs f d c)

-- a value after an effect is that of the effect, if it names the variable
pub read_after : (fs : List Fact) (s : List ℕ) (v : ℕ) → are_distinct fs ≡ true → All (λ f. f.variable < length s) fs →
    slice_index (with_values fs s) v ≡ unwrap_or (value_in fs v) (slice_index s v)
read_after [] s v d on = refl
read_after (f ∷ fs) s v d on =
    let parts = and_parts (not (names_variable fs f.variable)) (are_distinct fs) d in
    let later : All (λ g. g.variable < length (slice_set s f.variable f.value)) fs =
    λ k e l. rw length-set (All-tail (λ (g : Fact). g.variable < length s) f fs on k e l) in
    read_after fs (slice_set s f.variable f.value) v parts.1 later ∙ go (not-true (names_variable fs f.variable) parts.0) (eqb f.variable v) refl
  where
    within : f.variable < length s
    within = All-head (λ (g : Fact). g.variable < length s) f fs on

    go : names_variable fs f.variable ≡ false → (b : Bool) → eqb f.variable v ≡ b →
        unwrap_or (value_in fs v) (slice_index (slice_set s f.variable f.value) v) ≡ unwrap_or (value_in (f ∷ fs) v) (slice_index s v)
    go unnamed true e =
        let same : f.variable ≡ v = eqb-true f.variable v e in
        let none : value_in fs v ≡ None = unnamed_value fs v (subst (λ (w : ℕ). names_variable fs w ≡ false) same unnamed) in
        ap (λ (r : Option ℕ). unwrap_or r (slice_index (slice_set s f.variable f.value) v)) none
        ∙ subst (λ (w : ℕ). slice_index (slice_set s f.variable f.value) w ≡ f.value) same (get_or-set_same s f.variable f.value 0 within)
        ∙ sym (ap (λ (r : Option ℕ). unwrap_or r (slice_index s v)) (value_in-cons f fs v true e))
    go unnamed false e =
        ap (unwrap_or (value_in fs v)) (get_or-set_other s f.variable v f.value 0 (λ (q : v ≡ f.variable). eqb-false f.variable v e (sym q)))
        ∙ sym (ap (λ (r : Option ℕ). unwrap_or r (slice_index s v)) (value_in-cons f fs v false e))

pub length-after : (fs : List Fact) (s : List ℕ) → length (with_values fs s) ≡ length s
length-after [] s = refl
length-after (f ∷ fs) s = length-after fs (slice_set s f.variable f.value) ∙ length-set s f.variable f.value

-- ---- the same facts in another order

pub same_hold : (xs ys : List Fact) (state : List ℕ) → SameFacts xs ys → list_all (holds state) xs ≡ true → list_all (holds state) ys ≡ true
same_hold xs ys state same h = all_from (holds state) ys (λ f c. all_at (holds state) xs f h ((same f).1 c))

-- a variable has the same value by both
pub same_values : (xs ys : List Fact) (v : ℕ) → are_distinct xs ≡ true → are_distinct ys ≡ true → SameFacts xs ys → value_in xs v ≡ value_in ys v
same_values xs ys v dx dy same = go (value_in xs v) refl (value_in ys v) refl
  where
    go : (r : Option ℕ) → value_in xs v ≡ r → (q : Option ℕ) → value_in ys v ≡ q → r ≡ q
    go (Some x) e q p = sym (sym p ∙ value_of ys (fact v x) dy ((same (fact v x)).0 (value_has xs v x e)))
    go None e (Some y) p = sym e ∙ value_of xs (fact v y) dx ((same (fact v y)).1 (value_has ys v y p))
    go None e None p = refl

pub same_after : (xs ys : List Fact) (s : List ℕ) → are_distinct xs ≡ true → are_distinct ys ≡ true → All (λ f. f.variable < length s) xs → All (λ f. f.variable < length s) ys → SameFacts xs ys →
    with_values xs s ≡ with_values ys s
same_after xs ys s dx dy onx ony same =
    ext_get_or 0 (with_values xs s) (with_values ys s) (length-after xs s ∙ sym (length-after ys s))
    (λ v l. read_after xs s v dx onx ∙ ap (λ (r : Option ℕ). unwrap_or r (slice_index s v)) (same_values xs ys v dx dy same) ∙ sym (read_after ys s v dy ony))
