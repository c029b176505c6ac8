-- The arithmetic of a rule tells the ways by its changes.
use Rattle.std.proofs.Common.{◌≡◌, ℕ, ◌+◌, ◌*◌, ◌/◌, ◌%◌, ◌^◌, ◌<◌, ◌≤◌, true, false, List, [], ◌∷◌, map, inl, inr, ⊎_elim, refl, sym, ap, ◌∙◌, subst, arith, cond}
use Rattle.std.specs.Prelude.{◌⊎◌, ◌↔◌, All, Contains, slice_index}
use Rattle.std.specs.List.{list_all}
use Rattle.std.proofs.lemmas.List.Elements.{All-head, All-tail, All-cons}
use Rattle.std.proofs.lemmas.Bool.{cond_both, eqb-true, and_parts, false≢true}
use Rattle.std.proofs.lemmas.Nat.{mod_below, div_below, mul-le}
use Rattle.std.proofs.Math.Nat.{mod-add-div, div-div-eq-div-mul, mul-le-mul_left}
use Rattle.fdr.specs.Tasks.{ranges}
use Rattle.abstraction.specs.Projections.{Projection}
use Rattle.abstraction.specs.declared.digit.Digit.{Digit}
use Rattle.abstraction.specs.Digits.{value_of, IsDigitBelow, digits_from}
use Rattle.abstraction.specs.ProjectionLaws.{quotient, remainder}
use Rattle.abstraction_groups.specs.declared.change.Change.{Change}
use Rattle.abstraction_groups.specs.declared.change.Change.TheVariants.{Kept, Required, Moved, Assigned}
use Rattle.abstraction_groups.specs.declared.change.DigitChange.{DigitChange}
use Rattle.abstraction_groups.specs.Changes.{LeadsAt, LeadsBy, FitsIn, IsFit, size_by, is_assigned}
use Rattle.pdb_regression.specs.Changes.{enters_at, enters_digit, put_at, taken_at}
use Rattle.abstraction_groups.specs.Pairs.{IsChain, IsRow}
use Rattle.pdb_regression.specs.Rules.{unpacked, put_by, taken_by, free_in, IsWith}
use Rattle.abstraction_groups.specs.declared.backward.Transition.{Transition}
use Rattle.pdb_regression.proofs.Bounds.{leads_below}
use Rattle.pdb_regression.proofs.TableLaws.{all_enter}

below_one : (m n : ℕ) → m < n + 1 → (m < n) ⊎ (m ≡ n)
below_one m n l = grind arith

-- ---- sums with multiples of weights

same_with : (ds : List Digit) (n m k l : ℕ) → n ≡ k → m ≡ l → IsWith ds n m → IsWith ds k l
same_with ds n m k l e f h = subst (λ (x : ℕ). IsWith ds k x) f (subst (λ (x : ℕ). IsWith ds x m) e h)

with_more : (ds : List Digit) (k n m : ℕ) → IsWith ds n m → IsWith ds (k + n) (k + m)
with_more [] k n m h = ap (λ (x : ℕ). k + x) h
with_more (d ∷ ds) k n m h =
    (h.0, h.1, same_with ds (k + (n + h.0 * d.weight)) (k + m) (k + n + h.0 * d.weight) (k + m) (omega arith) refl (with_more ds k (n + h.0 * d.weight) m h.2))

with_less : (ds : List Digit) (k n m : ℕ) → IsWith ds (k + n) m → (l : ℕ) × (m ≡ k + l) × IsWith ds n l
with_less [] k n m h = (n, sym h, refl)
with_less (d ∷ ds) k n m h =
    let r = with_less ds k (n + h.0 * d.weight) m (same_with ds (k + n + h.0 * d.weight) m (k + (n + h.0 * d.weight)) m (omega arith) refl h.2) in
    (r.0, r.1, (h.0, h.1, r.2))

pub with_itself : (ds : List Digit) (n : ℕ) → All (IsDigitBelow (2 ^ 24)) ds → IsWith ds n n
with_itself [] n all = refl
with_itself (d ∷ ds) n all =
    let here = All-head (IsDigitBelow (2 ^ 24)) d ds all in
    (0, here.range, same_with ds n n (n + 0 * d.weight) n (omega arith) refl (with_itself ds n (All-tail (IsDigitBelow (2 ^ 24)) d ds all)))

-- ---- one change

abbrev free_of : Change → Digit → List Digit → List Digit
free_of change d ds = cond (is_assigned change) (d ∷ ds) ds

step_to : (change : Change) (d : Digit) (ds : List Digit) (w y a x i taken put : ℕ) → d.weight ≡ w → x < d.range → LeadsAt change x y →
    IsWith ds (w * d.range * a + w * d.range * taken) (w * d.range * i + w * d.range * put) →
    IsWith (free_of change d ds) (w * (y + d.range * a) + w * (taken_at change + d.range * taken)) (w * (x + d.range * i) + w * (put_at change + d.range * put))
step_to Kept d ds w y a x i taken put e l h rest =
    subst (λ (z : ℕ). IsWith ds (w * (z + d.range * a) + w * (0 + d.range * taken)) (w * (x + d.range * i) + w * (0 + d.range * put))) h
    (same_with ds (w * x + (w * d.range * a + w * d.range * taken)) (w * x + (w * d.range * i + w * d.range * put)) _ _ (omega arith) (omega arith) (with_more ds (w * x) _ _ rest))
step_to (Required c) d ds w y a x i taken put e l h rest =
    subst (λ (z : ℕ). IsWith ds (w * (z + d.range * a) + w * (0 + d.range * taken)) (w * (x + d.range * i) + w * (0 + d.range * put))) (h.0 ∙ sym h.1)
    (same_with ds (w * x + (w * d.range * a + w * d.range * taken)) (w * x + (w * d.range * i + w * d.range * put)) _ _ (omega arith) (omega arith) (with_more ds (w * x) _ _ rest))
step_to (Moved from to) d ds w y a x i taken put e l h rest =
    subst (λ (z : ℕ). IsWith ds (w * (z + d.range * a) + w * (from + d.range * taken)) (w * (x + d.range * i) + w * (to + d.range * put))) (sym h.1)
    (subst (λ (z : ℕ). IsWith ds (w * (to + d.range * a) + w * (from + d.range * taken)) (w * (z + d.range * i) + w * (to + d.range * put))) (sym h.0)
    (same_with ds (w * to + w * from + (w * d.range * a + w * d.range * taken)) (w * to + w * from + (w * d.range * i + w * d.range * put)) _ _ (omega arith) (omega arith)
    (with_more ds (w * to + w * from) _ _ rest)))
step_to (Assigned v) d ds w y a x i taken put e l h rest = (
  x,
  l,
  subst (λ (z : ℕ). IsWith ds (w * (z + d.range * a) + w * (0 + d.range * taken) + x * d.weight) (w * (x + d.range * i) + w * (v + d.range * put))) (sym h)
      (subst (λ (z : ℕ). IsWith ds (w * (v + d.range * a) + w * (0 + d.range * taken) + x * z) (w * (x + d.range * i) + w * (v + d.range * put))) (sym e)
      (same_with ds (w * v + w * x + (w * d.range * a + w * d.range * taken)) (w * v + w * x + (w * d.range * i + w * d.range * put)) _ _ (omega arith) (omega arith)
      (with_more ds (w * v + w * x) _ _ rest))),
)

-- what is known of a source at one digit
abbrev From : Change → Digit → List Digit → (w y a taken put m : ℕ) → Type 0
From change d ds w y a taken put m =
    (x l : ℕ) × (x < d.range) × LeadsAt change x y × IsWith ds (w * d.range * a + w * d.range * taken) l
    × ((i : ℕ) → l ≡ w * d.range * i + w * d.range * put → m ≡ w * (x + d.range * i) + w * (put_at change + d.range * put))

step_from : (change : Change) (d : Digit) (ds : List Digit) (w y a taken put m : ℕ) → d.weight ≡ w → y < d.range → FitsIn d.range change → enters_at change y ≡ true →
    IsWith (free_of change d ds) (w * (y + d.range * a) + w * (taken_at change + d.range * taken)) m → From change d ds w y a taken put m
step_from Kept d ds w y a taken put m e l fits enters h =
    let r = with_less ds (w * y) (w * d.range * a + w * d.range * taken) m (same_with ds _ _ (w * y + (w * d.range * a + w * d.range * taken)) m (omega arith) refl h) in
    (y, r.0, l, refl, r.2, λ i k. omega (arith, r.1, k))
step_from (Required v) d ds w y a taken put m e l fits enters h =
    let r = with_less ds (w * y) (w * d.range * a + w * d.range * taken) m (same_with ds _ _ (w * y + (w * d.range * a + w * d.range * taken)) m (omega arith) refl h) in
    (y, r.0, l, (eqb-true y v enters, eqb-true y v enters), r.2, λ i k. omega (arith, r.1, k))
step_from (Moved from to) d ds w y a taken put m e l fits enters h =
    let here : y ≡ to = eqb-true y to enters in
    let g = subst (λ (z : ℕ). IsWith ds (w * (z + d.range * a) + w * (from + d.range * taken)) m) here h in
    let r = with_less ds (w * to + w * from) (w * d.range * a + w * d.range * taken) m (same_with ds _ _ (w * to + w * from + (w * d.range * a + w * d.range * taken)) m (omega arith) refl g) in
    (from, r.0, fits.0, (refl, here), r.2, λ i k. omega (arith, r.1, k))
step_from (Assigned v) d ds w y a taken put m e l fits enters h =
    let here : y ≡ v = eqb-true y v enters in
    let g = subst (λ (z : ℕ). IsWith ds (w * (z + d.range * a) + w * (0 + d.range * taken) + h.0 * d.weight) m) here h.2 in
    let f = subst (λ (z : ℕ). IsWith ds (w * (v + d.range * a) + w * (0 + d.range * taken) + h.0 * z) m) e g in
    let r = with_less ds (w * v + w * h.0) (w * d.range * a + w * d.range * taken) m (same_with ds _ _ (w * v + w * h.0 + (w * d.range * a + w * d.range * taken)) m (omega arith) refl f) in
    (h.0, r.0, h.1, here, r.2, λ i k. omega (arith, r.1, k))

-- ---- all changes

module _ (j : ℕ) where
  -- the value at a digit, and the part of the abstract state from there on
  whole : (d : Digit) (w : ℕ) → d.weight ≡ w → value_of d j + d.range * (j / (w * d.range)) ≡ j / w
  whole d w e =
      let here = ap (λ (v : ℕ). j / v % d.range) e in
      let above : j / w / d.range ≡ j / (w * d.range) = div-div-eq-div-mul j w d.range in
      ap (λ (v : ℕ). v + d.range * (j / (w * d.range))) here ∙ ap (λ (v : ℕ). j / w % d.range + d.range * v) (sym above) ∙ mod-add-div (j / w) d.range

  above_below : (d : Digit) (w n : ℕ) → 0 < d.range → j / w < d.range * n → j / (w * d.range) < n
  above_below d w n some l = subst (λ (v : ℕ). v < n) (div-div-eq-div-mul j w d.range) (div_below (j / w) d.range n some (omega arith))

  -- each way is in the sums
  pub leads_with : (cs : List DigitChange) (w i : ℕ) → IsChain w cs → All IsFit cs → j / w < size_by cs → LeadsBy cs i j →
      IsWith (free_in cs) (w * (j / w) + w * taken_by cs) (w * i + w * put_by cs)
  leads_with [] w i chain all l h = let none : j / w ≡ 0 = omega arith in rw (none, h) (omega arith)
  leads_with (c ∷ cs) w i chain all l h =
      let fit = All-head IsFit c cs all in
      let r = c.digit.range in
      let below : i % r < r = mod_below i r fit.digit.range in
      let rest = leads_with cs (w * r) (i / r) chain.1 (All-tail IsFit c cs all) (above_below c.digit w (size_by cs) fit.digit.range l) h.1 in
      let made = step_to c.change c.digit (free_in cs) w (value_of c.digit j) (j / (w * r)) (i % r) (i / r) (taken_by cs) (put_by cs) chain.0 below h.0 rest in
      same_with (free_in (c ∷ cs)) _ _ (w * (j / w) + w * taken_by (c ∷ cs)) (w * i + w * put_by (c ∷ cs))
      (ap (λ (v : ℕ). w * v + w * taken_by (c ∷ cs)) (whole c.digit w chain.0))
      (ap (λ (v : ℕ). w * v + w * put_by (c ∷ cs)) (mod-add-div i r)) made

  -- each sum is a way
  pub with_leads : (cs : List DigitChange) (w m : ℕ) → IsChain w cs → All IsFit cs → j / w < size_by cs → list_all (enters_digit j) cs ≡ true →
      IsWith (free_in cs) (w * (j / w) + w * taken_by cs) m → (i : ℕ) × LeadsBy cs i j × (m ≡ w * i + w * put_by cs)
  with_leads [] w m chain all l e h = let none : j / w ≡ 0 = omega arith in (0, refl, let g : w * 0 + w * 0 ≡ m = rw none at h in omega arith)
  with_leads (c ∷ cs) w m chain all l e h =
      let fit = All-head IsFit c cs all in
      let r = c.digit.range in
      let parts = and_parts (enters_digit j c) (list_all (enters_digit j) cs) e in
      let start = same_with (free_in (c ∷ cs)) _ _ (w * (value_of c.digit j + r * (j / (w * r))) + w * taken_by (c ∷ cs)) m
      (ap (λ (v : ℕ). w * v + w * taken_by (c ∷ cs)) (sym (whole c.digit w chain.0))) refl h in
      let from = step_from c.change c.digit (free_in cs) w (value_of c.digit j) (j / (w * r)) (taken_by cs) (put_by cs) m chain.0
      (mod_below (j / c.digit.weight) r fit.digit.range) fit.change parts.0 start in
      let rest = with_leads cs (w * r) from.1 chain.1 (All-tail IsFit c cs all) (above_below c.digit w (size_by cs) fit.digit.range l) parts.1 from.4 in (
        from.0 + r * rest.0,
        (
          subst (λ (x : ℕ). LeadsAt c.change x (value_of c.digit j)) (sym (remainder from.0 r rest.0 from.2)) from.3,
          subst (λ (i : ℕ). LeadsBy cs i j) (sym (quotient from.0 r rest.0 from.2)) rest.1,
        ),
        from.5 rest.0 rest.2,
      )

  -- what the effects put there is not more than the abstract state
  put_at_most : (change : Change) (y : ℕ) → enters_at change y ≡ true → put_at change ≤ y
  put_at_most Kept y e = omega arith
  put_at_most (Required c) y e = omega arith
  put_at_most (Moved from to) y e = omega (arith, eqb-true y to e)
  put_at_most (Assigned v) y e = omega (arith, eqb-true y v e)

  pub put_below : (cs : List DigitChange) (w : ℕ) → IsChain w cs → list_all (enters_digit j) cs ≡ true → put_by cs ≤ j / w
  put_below [] w chain e = omega arith
  put_below (c ∷ cs) w chain e =
      let parts = and_parts (enters_digit j c) (list_all (enters_digit j) cs) e in
      let here = put_at_most c.change (value_of c.digit j) parts.0 in
      let rest = put_below cs (w * c.digit.range) chain.1 parts.1 in
      let more : c.digit.range * put_by cs ≤ c.digit.range * (j / (w * c.digit.range)) = mul-le-mul_left c.digit.range rest in
      omega (arith, whole c.digit w chain.0)

  -- ---- a rule

  module _ (cs : List DigitChange) (row : IsRow cs) (l : j < size_by cs) where
    part : j / 1 < size_by cs
    part = omega arith

    pub sources_sound : list_all (enters_digit j) cs ≡ true → (n s : ℕ) → n + put_by cs ≡ j + taken_by cs → IsWith (free_in cs) n s → LeadsBy cs s j
    sources_sound e n s is h =
        let shown = with_more (free_in cs) (put_by cs) n s h in
        let start = same_with (free_in cs) _ _ (1 * (j / 1) + 1 * taken_by cs) (put_by cs + s) (omega arith) refl shown in
        let way = with_leads cs 1 (put_by cs + s) row.chain row.fit part e start in
        let same : way.0 ≡ s = omega (arith, way.2) in
        subst (λ (i : ℕ). LeadsBy cs i j) same way.1

    pub sources_complete : (n s : ℕ) → n + put_by cs ≡ j + taken_by cs → LeadsBy cs s j → IsWith (free_in cs) n s
    sources_complete n s is way =
        let told = leads_with cs 1 s row.chain row.fit part way in
        let start = same_with (free_in cs) _ _ (put_by cs + n) (s + put_by cs) (omega arith) (omega arith) told in
        let less = with_less (free_in cs) (put_by cs) n (s + put_by cs) start in
        let same : less.0 ≡ s = omega (arith, less.1) in
        subst (λ (i : ℕ). IsWith (free_in cs) n i) same less.2

    pub sources_small : list_all (enters_digit j) cs ≡ true → (n s : ℕ) → n + put_by cs ≡ j + taken_by cs → IsWith (free_in cs) n s → s < 2 ^ 32
    sources_small e n s is h = let below = leads_below cs s j row.fit (sources_sound e n s is h) in let small = row.small in omega arith

    pub put_at_state : list_all (enters_digit j) cs ≡ true → put_by cs ≤ j
    put_at_state e = omega (arith, put_below cs 1 row.chain e)

-- ---- the values at the digits

pub unpacked_told : (rs : List ℕ) (w j : ℕ) (ps : List ℕ) → unpacked (j / w) (digits_from rs w ps) ≡ map (λ d. value_of d j) (digits_from rs w ps)
unpacked_told rs w j [] = refl
unpacked_told rs w j (p ∷ ps) =
    let r = slice_index rs p in
    ap (λ (xs : List ℕ). j / w % r ∷ xs) (ap (λ (n : ℕ). unpacked n (digits_from rs (w * r) ps)) (div-div-eq-div-mul j w r) ∙ unpacked_told rs (w * r) j ps)

pub free_fit : (cs : List DigitChange) → All IsFit cs → All (IsDigitBelow (2 ^ 24)) (free_in cs)
free_fit [] all = λ k d l. absurd (omega arith)
free_fit (c ∷ cs) all =
    let fit = All-head IsFit c cs all in
    let rest = free_fit cs (All-tail IsFit c cs all) in
    cond_both (is_assigned c.change) (c.digit ∷ free_in cs) (free_in cs) (All (IsDigitBelow (2 ^ 24)))
    (λ _. All-cons (IsDigitBelow (2 ^ 24)) c.digit (free_in cs) fit.digit rest) (λ _. rest)

-- ---- one value more of a free digit

pub value_more : (C : Transition → Type 0) (Q : ℕ → Transition → Type 0) (v : ℕ) (first old new : List Transition) →
    ((t : Transition) → Contains old t ↔ (Contains first t ⊎ (C t × ((x : ℕ) × (x < v) × Q x t)))) → ((t : Transition) → Contains new t ↔ (Contains old t ⊎ (C t × Q v t))) →
    (t : Transition) → Contains new t ↔ (Contains first t ⊎ (C t × ((x : ℕ) × (x < v + 1) × Q x t)))
value_more C Q v first old new known added t = (to, from)
  where
    to : Contains new t → Contains first t ⊎ (C t × ((x : ℕ) × (x < v + 1) × Q x t))
    to h = ⊎_elim
        (λ (a : Contains old t). ⊎_elim
        (λ (b : Contains first t). inl b)
        (λ (b : C t × ((x : ℕ) × (x < v) × Q x t)). let l = b.1.1 in inr (b.0, (b.1.0, omega arith, b.1.2)))
        ((known t).0 a))
        (λ (a : C t × Q v t). inr (a.0, (v, omega arith, a.1)))
        ((added t).0 h)

    from : Contains first t ⊎ (C t × ((x : ℕ) × (x < v + 1) × Q x t)) → Contains new t
    from h = (added t).1 (⊎_elim
        (λ (a : Contains first t). inl ((known t).1 (inl a)))
        (λ (a : C t × ((x : ℕ) × (x < v + 1) × Q x t)). ⊎_elim
        (λ (b : a.1.0 < v). inl ((known t).1 (inr (a.0, (a.1.0, b, a.1.2)))))
        (λ (b : a.1.0 ≡ v). inr (a.0, subst (λ (x : ℕ). Q x t) b a.1.2))
        (below_one a.1.0 v a.1.1))
        h)

-- all values of a free digit are its multiples
pub value_all : (C : Transition → Type 0) (d : Digit) (ds whole : List Digit) (n v : ℕ) (first new : List Transition) → whole ≡ d ∷ ds → v ≡ d.range →
    ((t : Transition) → Contains new t ↔ (Contains first t ⊎ (C t × ((x : ℕ) × (x < v) × IsWith ds (n + x * d.weight) t.source)))) →
    (t : Transition) → Contains new t ↔ (Contains first t ⊎ (C t × IsWith whole n t.source))
value_all C d ds whole n v first new e f known t =
    subst (λ (ws : List Digit). Contains new t ↔ (Contains first t ⊎ (C t × IsWith ws n t.source))) (sym e)
    (subst (λ (r : ℕ). Contains new t ↔ (Contains first t ⊎ (C t × ((x : ℕ) × (x < r) × IsWith ds (n + x * d.weight) t.source)))) f (known t))

pub weighted : (d : Digit) (x : ℕ) → IsDigitBelow (2 ^ 24) d → x < d.range → x * d.weight ≤ 2 ^ 24
weighted d x below l = let within = below.within in omega (arith, mul-le x d.weight d.range d.weight (omega arith) (omega arith))

-- ---- the transitions of one rule

pub rule_told : (C : Transition → Type 0) (cs : List DigitChange) (j n : ℕ) (free : List Digit) (first new : List Transition) → IsRow cs → j < size_by cs → list_all (enters_digit j) cs ≡ true →
    free ≡ free_in cs → n + put_by cs ≡ j + taken_by cs → ((t : Transition) → Contains new t ↔ (Contains first t ⊎ (C t × IsWith free n t.source))) →
    (t : Transition) → Contains new t ↔ (Contains first t ⊎ (C t × LeadsBy cs t.source j))
rule_told C cs j n free first new row l entered e is known t = (
  λ h. ⊎_elim
      (λ (a : Contains first t). inl a)
      (λ (a : C t × IsWith free n t.source). inr (a.0, sources_sound j cs row l entered n t.source is (subst (λ (ds : List Digit). IsWith ds n t.source) e a.1)))
      ((known t).0 h),
  λ h. (known t).1 (⊎_elim
      (λ (a : Contains first t). inl a)
      (λ (a : C t × LeadsBy cs t.source j). inr (a.0, subst (λ (ds : List Digit). IsWith ds n t.source) (sym e) (sources_complete j cs row l n t.source is a.1)))
      h),
)

-- a rule that asks another value has no transition
pub rule_out : (C : Transition → Type 0) (cs : List DigitChange) (j : ℕ) (first : List Transition) → list_all (enters_digit j) cs ≡ false →
    (t : Transition) → Contains first t ↔ (Contains first t ⊎ (C t × LeadsBy cs t.source j))
rule_out C cs j first out t = (
  λ h. inl h,
  λ h. ⊎_elim (λ (a : Contains first t). a) (λ (a : C t × LeadsBy cs t.source j). absurd (false≢true (sym out ∙ all_enter cs t.source j a.1))) h,
)

pub unpacked_whole : (p : Projection) (j : ℕ) → unpacked j (digits_from (ranges p.task) 1 p.pattern) ≡ map (λ d. value_of d j) (digits_from (ranges p.task) 1 p.pattern)
unpacked_whole p j =
    let whole : j ≡ j / 1 = omega arith in
    ap (λ (n : ℕ). unpacked n (digits_from (ranges p.task) 1 p.pattern)) whole ∙ unpacked_told (ranges p.task) 1 j p.pattern
