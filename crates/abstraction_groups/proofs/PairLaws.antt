-- The listed transitions of a group are those by its changes.
use Rattle.std.proofs.Common.{◌≡◌, ℕ, zero, suc, ◌+◌, ◌*◌, ◌/◌, ◌%◌, ◌<◌, ◌≤◌, List, [], ◌∷◌, map, refl, sym, ap, ◌∙◌, subst, arith, inl, inr, ⊎_elim}
use Rattle.std.specs.Prelude.{◌⊎◌, All, Contains}
use Rattle.std.proofs.lemmas.List.Elements.{All-head, All-tail, Contains-append_left, Contains-append_right, Contains-append_cases, Contains-push, Contains-push_cases}
use Rattle.std.proofs.lemmas.Bool.{cases_lt}
use Rattle.std.proofs.Math.Nat.{mod-add-div, div-div-eq-div-mul}
use Rattle.std.proofs.lemmas.Nat.{mod_below, div_below, mul-le}
use Rattle.keyed_lists.specs.declared.lists.Keyed.{Keyed}
use Rattle.abstraction.specs.declared.digit.Digit.{Digit}
use Rattle.abstraction.specs.Digits.{value_of}
use Rattle.abstraction.specs.ProjectionLaws.{quotient, remainder}
use Rattle.abstraction_groups.specs.declared.backward.Transition.{Transition}
use Rattle.abstraction_groups.specs.declared.change.Change.{Change}
use Rattle.abstraction_groups.specs.declared.change.Change.TheVariants.{Kept, Required, Moved, Assigned}
use Rattle.abstraction_groups.specs.declared.change.DigitChange.{DigitChange}
use Rattle.abstraction_groups.specs.Changes.{LeadsAt, LeadsBy, FitsIn, IsFit, size_by, least_before, least_after}
use Rattle.abstraction_groups.specs.Pairs.{shifted, copies, copies_at, entries_from, least_source, least_target, first_entry, group_entries, IsChain, IsRow}

-- ---- sums of a source and a target over the digits

-- what a digit adds to the source and to the target, beyond the least values
abbrev AddsAt : Change → Digit → ℕ → ℕ → Type 0
AddsAt Kept d a b = (x : ℕ) × (x < d.range) × (a ≡ x * d.weight) × (b ≡ x * d.weight)
AddsAt (Required c) d a b = (a ≡ 0) × (b ≡ 0)
AddsAt (Moved from to) d a b = (a ≡ 0) × (b ≡ 0)
AddsAt (Assigned e) d a b = (x : ℕ) × (x < d.range) × (a ≡ x * d.weight) × (b ≡ 0)

abbrev pub Adds : List DigitChange → ℕ → ℕ → Type 0
Adds [] a b = (a ≡ 0) × (b ≡ 0)
Adds (c ∷ cs) a b = (p : ℕ) × (q : ℕ) × (m : ℕ) × (n : ℕ) × AddsAt c.change c.digit p q × Adds cs m n × (a ≡ p + m) × (b ≡ q + n)

-- a change of values, as what the digit adds
at_adds : (c : Change) (d : Digit) (x y : ℕ) → x < d.range → LeadsAt c x y → (p : ℕ) × (q : ℕ) × AddsAt c d p q × (x * d.weight ≡ least_before c * d.weight + p) × (y * d.weight ≡ least_after c * d.weight + q)
at_adds Kept d x y l h = (x * d.weight, x * d.weight, (x, l, refl, refl), omega arith, ap (λ (n : ℕ). n * d.weight) (sym h) ∙ (let z : x * d.weight ≡ 0 * d.weight + x * d.weight = omega arith in z))
at_adds (Required c) d x y l h = (0, 0, (refl, refl), ap (λ (n : ℕ). n * d.weight) h.0 ∙ (let z : c * d.weight ≡ c * d.weight + 0 = omega arith in z), ap (λ (n : ℕ). n * d.weight) h.1 ∙ (let z : c * d.weight ≡ c * d.weight + 0 = omega arith in z))
at_adds (Moved from to) d x y l h = (0, 0, (refl, refl), ap (λ (n : ℕ). n * d.weight) h.0 ∙ (let z : from * d.weight ≡ from * d.weight + 0 = omega arith in z), ap (λ (n : ℕ). n * d.weight) h.1 ∙ (let z : to * d.weight ≡ to * d.weight + 0 = omega arith in z))
at_adds (Assigned e) d x y l h = (x * d.weight, 0, (x, l, refl, refl), omega arith, ap (λ (n : ℕ). n * d.weight) h ∙ (let z : e * d.weight ≡ e * d.weight + 0 = omega arith in z))

adds_at : (c : Change) (d : Digit) (p q : ℕ) → 0 < d.range → FitsIn d.range c → AddsAt c d p q →
    (x : ℕ) × (y : ℕ) × (x < d.range) × (y < d.range) × LeadsAt c x y × (least_before c * d.weight + p ≡ x * d.weight) × (least_after c * d.weight + q ≡ y * d.weight)
adds_at Kept d p q some fits h = (h.0, h.0, h.1, h.1, refl, let a = h.2 in omega arith, let b = h.3 in omega arith)
adds_at (Required c) d p q some fits h = (c, c, fits, fits, (refl, refl), let a = h.0 in omega arith, let b = h.1 in omega arith)
adds_at (Moved from to) d p q some fits h = (from, to, fits.0, fits.1, (refl, refl), let a = h.0 in omega arith, let b = h.1 in omega arith)
adds_at (Assigned e) d p q some fits h = (h.0, e, h.1, fits, refl, let a = h.2 in omega arith, let b = h.3 in omega arith)

-- one digit more: numbers in units of the digit's weight
split_units : (i r w : ℕ) → i * w ≡ i % r * w + i / r * (w * r)
split_units i r w = ap (λ (n : ℕ). n * w) (sym (mod-add-div i r)) ∙ spread (i % r) (i / r) r w
  where
    spread : (x q r w : ℕ) → (x + r * q) * w ≡ x * w + q * (w * r)
    spread x q r w = omega arith

join_units : (x q r w s : ℕ) → s ≡ q * (w * r) → x * w + s ≡ (x + r * q) * w
join_units x q r w s e = omega arith

-- the changes lead by sums
leads_adds : (cs : List DigitChange) (w i j : ℕ) → All IsFit cs → IsChain w cs → j / w < size_by cs → LeadsBy cs i j →
    (a : ℕ) × (b : ℕ) × Adds cs a b × (i * w ≡ least_source cs + a) × (j / w * w ≡ least_target cs + b)
leads_adds [] w i j fit chain l h = (0, 0, (refl, refl), let z : i ≡ 0 = h in rw z (omega arith), let z : j / w ≡ 0 = omega arith in rw z (omega arith))
leads_adds (c ∷ cs) w i j fit chain l h =
    let r = c.digit.range in
    let here = All-head IsFit c cs fit in
    let weight : c.digit.weight ≡ w = chain.0 in
    let split : j / w / r ≡ j / (w * r) = div-div-eq-div-mul j w r in
    let above : j / w / r < size_by cs = div_below (j / w) r (size_by cs) here.digit.range (omega arith) in
    let rest = leads_adds cs (w * r) (i / r) j (All-tail IsFit c cs fit) chain.1 (rw (← split) above) h.1 in
    let low : i % r < r = mod_below i r here.digit.range in
    let one = at_adds c.change c.digit (i % r) (j / c.digit.weight % r) low h.0 in
    let source = split_units i r w in
    let target = split_units (j / w) r w in
    let same : j / c.digit.weight % r ≡ j / w % r = ap (λ (n : ℕ). j / n % r) weight in
    let s : i % r * w ≡ least_before c.change * c.digit.weight + one.0 = ap (λ (n : ℕ). i % r * n) (sym weight) ∙ one.3 in
    let t : j / w % r * w ≡ least_after c.change * c.digit.weight + one.1 = ap (λ (n : ℕ). n * w) (sym same) ∙ ap (λ (n : ℕ). j / c.digit.weight % r * n) (sym weight) ∙ one.4 in
    let u : j / w / r * (w * r) ≡ least_target cs + rest.1 = ap (λ (n : ℕ). n * (w * r)) split ∙ rest.4 in
    let v = rest.3 in
    (one.0 + rest.0, one.1 + rest.1, (one.0, one.1, rest.0, rest.1, one.2, rest.2, refl, refl), omega arith, omega arith)

-- sums are numbers by which the changes lead
adds_lead : (cs : List DigitChange) (w a b : ℕ) → 0 < w → All IsFit cs → IsChain w cs → Adds cs a b →
    (i : ℕ) × (t : ℕ) × (i < size_by cs) × (t < size_by cs) × (least_source cs + a ≡ i * w) × (least_target cs + b ≡ t * w) × ((j : ℕ) → j / w ≡ t → LeadsBy cs i j)
adds_lead [] w a b some fit chain h = (0, 0, omega arith, omega arith, let z = h.0 in omega arith, let z = h.1 in omega arith, λ j e. refl)
adds_lead (c ∷ cs) w a b some fit chain h =
    let r = c.digit.range in
    let here = All-head IsFit c cs fit in
    let weight : c.digit.weight ≡ w = chain.0 in
    let positive : 0 < w * r = let range = here.digit.range in omega (arith, mul-le 1 1 w r (omega arith) (omega arith)) in
    let rest = adds_lead cs (w * r) h.2 h.3 positive (All-tail IsFit c cs fit) chain.1 h.5 in
    let one = adds_at c.change c.digit h.0 h.1 here.digit.range here.change h.4 in
    let x = one.0 in
    let y = one.1 in
    let i = rest.0 in
    let t = rest.1 in
    let s : least_before c.change * c.digit.weight + h.0 ≡ x * w = one.5 ∙ ap (λ (n : ℕ). x * n) weight in
    let u : least_after c.change * c.digit.weight + h.1 ≡ y * w = one.6 ∙ ap (λ (n : ℕ). y * n) weight in
    let source = join_units x i r w (least_source cs + h.2) rest.4 in
    let target = join_units y t r w (least_target cs + h.3) rest.5 in
    let asum = h.6 in
    let bsum = h.7 in (
      x + r * i,
      y + r * t,
      below_product r (size_by cs) x i one.2 rest.2,
      below_product r (size_by cs) y t one.3 rest.3,
      omega arith,
      omega arith,
      λ j e.
          let high : j / (w * r) ≡ t = sym (div-div-eq-div-mul j w r) ∙ ap (λ (n : ℕ). n / r) e ∙ quotient y r t one.3 in
          let digit : value_of c.digit j ≡ y = ap (λ (n : ℕ). j / n % r) weight ∙ ap (λ (n : ℕ). n % r) e ∙ remainder y r t one.3 in (
            subst (λ (n : ℕ). LeadsAt c.change n (value_of c.digit j)) (sym (remainder x r i one.2)) (subst (λ (n : ℕ). LeadsAt c.change x n) (sym digit) one.4),
            subst (λ (n : ℕ). LeadsBy cs n j) (sym (quotient x r i one.2)) (rest.6 j high),
          ),
    )
  where
    below_product : (r s x n : ℕ) → x < r → n < s → x + r * n < r * s
    below_product r s x n l m = let more : r * (n + 1) ≤ r * s = mul-le r (n + 1) r s (omega arith) (omega arith) in omega arith

-- ---- the listed transitions

pub Contains-cons_cases : {X : Type 0} (x : X) (xs : List X) (y : X) → Contains (x ∷ xs) y → (x ≡ y) ⊎ Contains xs y
Contains-cons_cases x xs y h = Contains-push_first (Contains-append_cases (x ∷ []) xs y h)
  where
    Contains-push_first : Contains (x ∷ []) y ⊎ Contains xs y → (x ≡ y) ⊎ Contains xs y
    Contains-push_first (inl a) = ⊎_elim (λ (r : Contains [] y). let l : r.0 < 0 = r.1 in absurd (omega arith)) (λ (q : x ≡ y). inl q) (Contains-push_cases [] x y a)
    Contains-push_first (inr b) = inr b

pub Contains-here : {X : Type 0} (x : X) (xs : List X) → Contains (x ∷ xs) x
Contains-here x xs = Contains-append_left (x ∷ []) xs x (Contains-push [] x)

pub Contains-there : {X : Type 0} (x : X) (xs : List X) (y : X) → Contains xs y → Contains (x ∷ xs) y
Contains-there x xs y h = Contains-append_right (x ∷ []) xs y h

-- copies are those with some value
in_map : (s t : ℕ) (es : List (Keyed Transition)) (e : Keyed Transition) → Contains (map (shifted s t) es) e → (o : Keyed Transition) × Contains es o × (e ≡ shifted s t o)
in_map s t [] e h = let l : h.0 < 0 = h.1 in absurd (omega arith)
in_map s t (x ∷ es) e h =
    ⊎_elim
    (λ (q : shifted s t x ≡ e). (x, Contains-here x es, sym q))
    (λ (r : Contains (map (shifted s t) es) e). let rest = in_map s t es e r in (rest.0, Contains-there x es rest.0 rest.1, rest.2))
    (Contains-cons_cases (shifted s t x) (map (shifted s t) es) e h)

map_in : (s t : ℕ) (es : List (Keyed Transition)) (o : Keyed Transition) → Contains es o → Contains (map (shifted s t) es) (shifted s t o)
map_in s t [] o h = let l : h.0 < 0 = h.1 in absurd (omega arith)
map_in s t (x ∷ es) o h =
    ⊎_elim
    (λ (q : x ≡ o). subst (λ (y : Keyed Transition). Contains (map (shifted s t) (x ∷ es)) (shifted s t y)) q (Contains-here (shifted s t x) (map (shifted s t) es)))
    (λ (r : Contains es o). Contains-there (shifted s t x) (map (shifted s t) es) (shifted s t o) (map_in s t es o r))
    (Contains-cons_cases x es o h)

abbrev pub IsCopy : ℕ → ℕ → ℕ → List (Keyed Transition) → Keyed Transition → Type 0
IsCopy n s t es e = (x : ℕ) × (x < n) × (o : Keyed Transition) × Contains es o × (e ≡ shifted (x * s) (x * t) o)

pub copy_of : (n s t : ℕ) (es : List (Keyed Transition)) (e : Keyed Transition) → Contains (copies n s t es) e → IsCopy n s t es e
copy_of zero s t es e h = let l : h.0 < 0 = h.1 in absurd (omega arith)
copy_of (suc n) s t es e h =
    ⊎_elim
    (λ (r : Contains (copies n s t es) e). let rest = copy_of n s t es e r in (rest.0, let l = rest.1 in omega arith, rest.2, rest.3, rest.4))
    (λ (r : Contains (map (shifted (n * s) (n * t)) es) e). let one = in_map (n * s) (n * t) es e r in (n, omega arith, one.0, one.1, one.2))
    (Contains-append_cases (copies n s t es) (map (shifted (n * s) (n * t)) es) e h)

pub has_copy : (n s t x : ℕ) (es : List (Keyed Transition)) (o : Keyed Transition) → x < n → Contains es o → Contains (copies n s t es) (shifted (x * s) (x * t) o)
has_copy zero s t x es o l h = absurd (omega arith)
has_copy (suc n) s t x es o l h =
    ⊎_elim
    (λ (r : x < n). Contains-append_left (copies n s t es) (map (shifted (n * s) (n * t)) es) (shifted (x * s) (x * t) o) (has_copy n s t x es o r h))
    (λ (r : n ≤ x). let same : n ≡ x = omega arith in
    Contains-append_right (copies n s t es) (map (shifted (n * s) (n * t)) es) (shifted (x * s) (x * t) o)
    (subst (λ (y : ℕ). Contains (map (shifted (n * s) (n * t)) es) (shifted (y * s) (y * t) o)) same (map_in (n * s) (n * t) es o h)))
    (cases_lt x n)

-- ---- the entries of a group

abbrev pub entry_of : ℕ → ℕ → ℕ → Keyed Transition
entry_of key class source = record { key = key; item = record { class = class; source = source } }

pub entry_same : (k l c s t : ℕ) → k ≡ l → s ≡ t → entry_of k c s ≡ entry_of l c t
entry_same k l c s t p q = ap (λ (n : ℕ). entry_of n c s) p ∙ ap (λ (n : ℕ). entry_of l c n) q

unshifted : (e : Keyed Transition) → shifted 0 0 e ≡ e
unshifted e = entry_same (e.key + 0) e.key e.item.class (e.item.source + 0) e.item.source (omega arith) (omega arith)

shifted_twice : (p q m n : ℕ) (e : Keyed Transition) → shifted p q (shifted m n e) ≡ shifted (p + m) (q + n) e
shifted_twice p q m n e = entry_same (e.key + n + q) (e.key + (q + n)) e.item.class (e.item.source + m + p) (e.item.source + (p + m)) (omega arith) (omega arith)

digit_told : (c : Change) (d : Digit) (es : List (Keyed Transition)) (e : Keyed Transition) → Contains (copies_at c d es) e →
    (p : ℕ) × (q : ℕ) × (o : Keyed Transition) × AddsAt c d p q × Contains es o × (e ≡ shifted p q o)
digit_told Kept d es e h = let r = copy_of d.range d.weight d.weight es e h in (r.0 * d.weight, r.0 * d.weight, r.2, (r.0, r.1, refl, refl), r.3, r.4)
digit_told (Required c) d es e h = (0, 0, e, (refl, refl), h, sym (unshifted e))
digit_told (Moved from to) d es e h = (0, 0, e, (refl, refl), h, sym (unshifted e))
digit_told (Assigned a) d es e h =
    let r = copy_of d.range d.weight 0 es e h in
    let none : r.0 * 0 ≡ 0 = omega arith in
    (r.0 * d.weight, 0, r.2, (r.0, r.1, refl, refl), r.3, r.4 ∙ ap (λ (n : ℕ). shifted (r.0 * d.weight) n r.2) none)

digit_has : (c : Change) (d : Digit) (es : List (Keyed Transition)) (p q : ℕ) (o : Keyed Transition) → AddsAt c d p q → Contains es o → Contains (copies_at c d es) (shifted p q o)
digit_has Kept d es p q o h has =
    let copy = has_copy d.range d.weight d.weight h.0 es o h.1 has in
    subst (λ (n : ℕ). Contains (copies d.range d.weight d.weight es) (shifted n q o)) (sym h.2) (subst (λ (n : ℕ). Contains (copies d.range d.weight d.weight es) (shifted (h.0 * d.weight) n o)) (sym h.3) copy)
digit_has (Required c) d es p q o h has = let same : o ≡ shifted p q o = sym (ap (λ (n : ℕ). shifted n q o) h.0 ∙ ap (λ (n : ℕ). shifted 0 n o) h.1 ∙ unshifted o) in subst (λ (e : Keyed Transition). Contains es e) same has
digit_has (Moved from to) d es p q o h has = let same : o ≡ shifted p q o = sym (ap (λ (n : ℕ). shifted n q o) h.0 ∙ ap (λ (n : ℕ). shifted 0 n o) h.1 ∙ unshifted o) in subst (λ (e : Keyed Transition). Contains es e) same has
digit_has (Assigned a) d es p q o h has =
    let copy = has_copy d.range d.weight 0 h.0 es o h.1 has in
    let none : h.0 * 0 ≡ q = let z = h.3 in omega arith in
    subst (λ (n : ℕ). Contains (copies d.range d.weight 0 es) (shifted n q o)) (sym h.2) (subst (λ (n : ℕ). Contains (copies d.range d.weight 0 es) (shifted (h.0 * d.weight) n o)) none copy)

entries_told : (first : Keyed Transition) (cs : List DigitChange) (e : Keyed Transition) → Contains (entries_from first cs) e → (a : ℕ) × (b : ℕ) × Adds cs a b × (e ≡ shifted a b first)
entries_told first [] e h =
    ⊎_elim (λ (r : Contains [] e). let l : r.0 < 0 = r.1 in absurd (omega arith)) (λ (q : first ≡ e). (0, 0, (refl, refl), sym q ∙ sym (unshifted first))) (Contains-push_cases [] first e h)
entries_told first (c ∷ cs) e h =
    let one = digit_told c.change c.digit (entries_from first cs) e h in
    let rest = entries_told first cs one.2 one.4 in (
      one.0 + rest.0,
      one.1 + rest.1,
      (one.0, one.1, rest.0, rest.1, one.3, rest.2, refl, refl),
      one.5 ∙ ap (shifted one.0 one.1) rest.3 ∙ shifted_twice one.0 one.1 rest.0 rest.1 first,
    )

entries_have : (first : Keyed Transition) (cs : List DigitChange) (a b : ℕ) → Adds cs a b → Contains (entries_from first cs) (shifted a b first)
entries_have first [] a b h =
    subst (λ (e : Keyed Transition). Contains (first ∷ []) e) (sym (ap (λ (n : ℕ). shifted n b first) h.0 ∙ ap (λ (n : ℕ). shifted 0 n first) h.1 ∙ unshifted first)) (Contains-push [] first)
entries_have first (c ∷ cs) a b h =
    let rest = entries_have first cs h.2 h.3 h.5 in
    let one = digit_has c.change c.digit (entries_from first cs) h.0 h.1 (shifted h.2 h.3 first) h.4 rest in
    let whole = shifted_twice h.0 h.1 h.2 h.3 first in
    subst (λ (e : Keyed Transition). Contains (entries_from first (c ∷ cs)) e)
    (whole ∙ ap (λ (n : ℕ). shifted n (h.1 + h.3) first) (sym h.6) ∙ ap (λ (n : ℕ). shifted a n first) (sym h.7)) one

-- exactly the transitions by the changes
pub group_leads : (class : ℕ) (cs : List DigitChange) → IsRow cs → (e : Keyed Transition) → Contains (group_entries class cs) e →
    (e.item.class ≡ class) × (e.item.source < size_by cs) × (e.key < size_by cs) × LeadsBy cs e.item.source e.key
group_leads class cs row e h =
    let told = entries_told (first_entry class cs) cs e h in
    let lead = adds_lead cs 1 told.0 told.1 (omega arith) row.fit row.chain told.2 in
    let source : lead.0 ≡ e.item.source = let at = lead.4 in let is = ap (λ (x : Keyed Transition). x.item.source) told.3 in omega arith in
    let target : lead.1 ≡ e.key = let at = lead.5 in let is = ap (λ (x : Keyed Transition). x.key) told.3 in omega arith in (
      ap (λ (x : Keyed Transition). x.item.class) told.3,
      let l = lead.2 in omega arith,
      let l = lead.3 in omega arith,
      subst (λ (n : ℕ). LeadsBy cs n e.key) source (lead.6 e.key (omega arith)),
    )

pub group_lists : (class : ℕ) (cs : List DigitChange) → IsRow cs → (i j : ℕ) → j < size_by cs → LeadsBy cs i j → Contains (group_entries class cs) (record { key = j; item = record { class = class; source = i } })
group_lists class cs row i j l h =
    let told = leads_adds cs 1 i j row.fit row.chain (omega arith) h in
    let has = entries_have (first_entry class cs) cs told.0 told.1 told.2 in
    subst (λ (e : Keyed Transition). Contains (group_entries class cs) e)
    (entry_same (least_target cs + told.1) j class (least_source cs + told.0) i (let t = told.4 in omega arith) (let s = told.3 in omega arith)) has
