-- The numbers of a row of changes, digit by digit.
use Rattle.std.proofs.Common.{◌≡◌, ℕ, zero, suc, ◌+◌, ◌-◌, ◌*◌, ◌^◌, ◌<◌, ◌≤◌, Bool, true, false, List, [], ◌∷◌, ◌++◌, length, drop, take, map, get_or, refl, sym, ap, ◌∙◌, subst, arith, cond, drop-cons, append_assoc}
use Rattle.std.specs.Prelude.{All, Contains}
use Rattle.std.proofs.lemmas.List.Elements.{All-head, All-tail, All-drop, Contains-append_left}
use Rattle.std.proofs.Math.Seq.{take-append_seam, drop-append_seam}
use Rattle.std.proofs.lemmas.List.{append-nil, drop_all, take_more, map-append, length-append, length-drop, length-take-le, get_or-drop, get_or-take, get_or_default, take-append-drop}
use Rattle.std.proofs.lemmas.Nat.{mul-le}
use Rattle.keyed_lists.specs.declared.lists.Keyed.{Keyed}
use Rattle.abstraction.specs.declared.digit.Digit.{Digit}
use Rattle.abstraction_groups.specs.declared.backward.Transition.{Transition}
use Rattle.abstraction_groups.specs.declared.change.Change.{Change}
use Rattle.abstraction_groups.specs.declared.change.Change.TheVariants.{Kept, Required, Moved, Assigned}
use Rattle.abstraction_groups.specs.declared.change.DigitChange.{DigitChange}
use Rattle.abstraction_groups.specs.Changes.{at_digits, is_free, choices_at, least_before, least_after, pair_count, FitsIn, IsFit, size_by}
use Rattle.abstraction_groups.specs.Pairs.{least_source, least_target, shifted, copies, copies_at, entries_from, first_entry, IsChain, IsRow, AreSmall}
use Rattle.abstraction_groups.proofs.PairLaws.{has_copy, group_leads}

-- ---- one place

pub length-at_digits : (ds : List Digit) (cs : List Change) → length cs ≡ length ds → length (at_digits ds cs) ≡ length cs
length-at_digits [] [] long = refl
length-at_digits [] (c ∷ cs) long = absurd (omega arith)
length-at_digits (d ∷ ds) [] long = refl
length-at_digits (d ∷ ds) (c ∷ cs) long = let rest = length-at_digits ds cs (omega arith) in omega arith

abbrev pub placed : Digit → Change → DigitChange
placed d c = record { digit = d; change = c }

pub at_place : (ds : List Digit) (cs : List Change) (k : ℕ) (d : Digit) (c : Change) → length cs ≡ length ds → k < length cs → get_or (at_digits ds cs) k (placed d c) ≡ placed (get_or ds k d) (get_or cs k c)
at_place [] [] k d c long l = absurd (omega arith)
at_place [] (x ∷ cs) k d c long l = absurd (omega arith)
at_place (y ∷ ds) [] k d c long l = absurd (omega arith)
at_place (y ∷ ds) (x ∷ cs) zero d c long l = refl
at_place (y ∷ ds) (x ∷ cs) (suc k) d c long l = at_place ds cs k d c (omega arith) (omega arith)

-- the changes from a place on
pub from_place : (ds : List Digit) (cs : List Change) (k : ℕ) (d : Digit) (c : Change) → length cs ≡ length ds → k < length cs →
    drop k (at_digits ds cs) ≡ placed (get_or ds k d) (get_or cs k c) ∷ drop (k + 1) (at_digits ds cs)
from_place ds cs k d c long l =
    let next : suc k ≡ k + 1 = omega arith in
    drop-cons (at_digits ds cs) k (placed d c) (omega (arith, length-at_digits ds cs long))
    ∙ ap (λ (x : DigitChange). x ∷ drop (suc k) (at_digits ds cs)) (at_place ds cs k d c long l)
    ∙ ap (λ (n : ℕ). placed (get_or ds k d) (get_or cs k c) ∷ drop n (at_digits ds cs)) next

pub at_end : (ds : List Digit) (cs : List Change) (k : ℕ) → length cs ≡ length ds → length cs ≤ k → drop k (at_digits ds cs) ≡ []
at_end ds cs k long l = drop_all k (at_digits ds cs) (omega (arith, length-at_digits ds cs long))

pub fit_place : (ds : List Digit) (cs : List Change) (k : ℕ) (d : Digit) (c : Change) → length cs ≡ length ds → k < length cs → All IsFit (at_digits ds cs) → IsFit (placed (get_or ds k d) (get_or cs k c))
fit_place ds cs k d c long l fit = subst IsFit (at_place ds cs k d c long l) (fit k (placed d c) (omega (arith, length-at_digits ds cs long)))

-- ---- the number of pairs

choices_low : (r : ℕ) (c : Change) → 0 < r → (0 < choices_at r c) × (choices_at r c ≤ r)
choices_low r c l = go (is_free c)
  where
    go : (b : Bool) → (0 < cond b r 1) × (cond b r 1 ≤ r)
    go true = (l, omega arith)
    go false = (omega arith, l)

pub count_some : (cs : List DigitChange) → All IsFit cs → 0 < pair_count cs
count_some [] fit = omega arith
count_some (c ∷ cs) fit =
    let one = (choices_low c.digit.range c.change (All-head IsFit c cs fit).digit.range).0 in
    let rest = count_some cs (All-tail IsFit c cs fit) in
    omega (arith, mul-le 1 1 (choices_at c.digit.range c.change) (pair_count cs) (omega arith) (omega arith))

pub count_within : (cs : List DigitChange) → All IsFit cs → pair_count cs ≤ size_by cs
count_within [] fit = omega arith
count_within (c ∷ cs) fit =
    mul-le (choices_at c.digit.range c.change) (pair_count cs) c.digit.range (size_by cs)
    (choices_low c.digit.range c.change (All-head IsFit c cs fit).digit.range).1 (count_within cs (All-tail IsFit c cs fit))

-- the product so far, with one factor more
pub count_more : (n m rest whole : ℕ) → n * (m * rest) ≡ whole → 0 < rest → (n * m ≤ whole) × (n * m * rest ≡ whole)
count_more n m rest whole e some =
    let same : n * m * rest ≡ whole = omega arith in
    let most : n * m * 1 ≤ n * m * rest = mul-le (n * m) 1 (n * m) rest (omega arith) (omega arith) in
    (omega arith, same)

-- ---- the least source and its target

least_fits : (r : ℕ) (c : Change) → 0 < r → FitsIn r c → (least_before c < r) × (least_after c < r)
least_fits r Kept l fits = (l, l)
least_fits r (Required c) l fits = (fits, fits)
least_fits r (Moved from to) l fits = (fits.0, fits.1)
least_fits r (Assigned e) l fits = (l, fits)

sum_below : (x w r s n : ℕ) → x < r → n + w * r ≤ w * r * s → x * w + n + w ≤ w * (r * s)
sum_below x w r s n l m = let one : (x + 1) * w ≤ r * w = mul-le (x + 1) w r w (omega arith) (omega arith) in omega arith

pub least_below : (cs : List DigitChange) (w : ℕ) → All IsFit cs → IsChain w cs → (least_source cs + w ≤ w * size_by cs) × (least_target cs + w ≤ w * size_by cs)
least_below [] w fit chain = (omega arith, omega arith)
least_below (c ∷ cs) w fit chain =
    let here = All-head IsFit c cs fit in
    let rest = least_below cs (w * c.digit.range) (All-tail IsFit c cs fit) chain.1 in
    let low = least_fits c.digit.range c.change here.digit.range here.change in
    let weight : c.digit.weight ≡ w = chain.0 in
    rw weight (
      sum_below (least_before c.change) w c.digit.range (size_by cs) (least_source cs) low.0 rest.0,
      sum_below (least_after c.change) w c.digit.range (size_by cs) (least_target cs) low.1 rest.1,
    )

pub row_below : (cs : List DigitChange) → IsRow cs → (least_source cs < 2 ^ 24) × (least_target cs < 2 ^ 24)
row_below cs row =
    let below = least_below cs 1 row.fit row.chain in
    let a = below.0 in
    let b = below.1 in
    let small = row.small in
    (omega arith, omega arith)

-- ---- copies

unmoved : (es : List (Keyed Transition)) → map (shifted 0 0) es ≡ es
unmoved [] = refl
unmoved (e ∷ es) = ap (λ (x : Keyed Transition). x ∷ map (shifted 0 0) es) (same e) ∙ ap (λ (xs : List (Keyed Transition)). e ∷ xs) (unmoved es)
  where
    number : (k s : ℕ) (e : Keyed Transition) → k ≡ e.key → s ≡ e.item.source → (record { key = k; item = record { class = e.item.class; source = s } }) ≡ e
    number k s e p q = ap (λ (n : ℕ). record { key = n; item = record { class = e.item.class; source = s } }) p ∙ ap (λ (n : ℕ). record { key = e.key; item = record { class = e.item.class; source = n } }) q

    same : (e : Keyed Transition) → shifted 0 0 e ≡ e
    same e = number (e.key + 0) (e.item.source + 0) e (omega arith) (omega arith)

pub copies_one : (s t : ℕ) (es : List (Keyed Transition)) → copies 1 s t es ≡ es
copies_one s t es =
    let a : 0 * s ≡ 0 = omega arith in
    let b : 0 * t ≡ 0 = omega arith in
    ap (λ (n : ℕ). map (shifted n (0 * t)) es) a ∙ ap (λ (n : ℕ). map (shifted 0 n) es) b ∙ unmoved es

pub copies_more : (n s t : ℕ) (es : List (Keyed Transition)) → copies (n + 1) s t es ≡ copies n s t es ++ map (shifted (n * s) (n * t)) es
copies_more n s t es = let next : n + 1 ≡ suc n = omega arith in rw next refl

-- the first copies are the entries themselves
pub copies_begin : (n s t : ℕ) (es : List (Keyed Transition)) → 0 < n → (rest : List (Keyed Transition)) × (copies n s t es ≡ es ++ rest)
copies_begin zero s t es l = absurd (omega arith)
copies_begin (suc zero) s t es l = ([], copies_one s t es ∙ sym (append-nil es))
copies_begin (suc (suc n)) s t es l =
    let before = copies_begin (suc n) s t es (omega arith) in
    let more = map (shifted (suc n * s) (suc n * t)) es in
    (before.0 ++ more, ap (λ (xs : List (Keyed Transition)). xs ++ more) before.1 ∙ append_assoc es before.0 more)

-- ---- all entries of a row are small

has_self : (n s t : ℕ) (es : List (Keyed Transition)) (e : Keyed Transition) → 0 < n → Contains es e → Contains (copies n s t es) e
has_self n s t es e l h =
    let begin = copies_begin n s t es l in
    subst (λ (xs : List (Keyed Transition)). Contains xs e) (sym begin.1) (Contains-append_left es begin.0 e h)

stays_at : (c : Change) (d : Digit) (es : List (Keyed Transition)) (e : Keyed Transition) → 0 < d.range → Contains es e → Contains (copies_at c d es) e
stays_at Kept d es e l h = has_self d.range d.weight d.weight es e l h
stays_at (Required c) d es e l h = h
stays_at (Moved from to) d es e l h = h
stays_at (Assigned a) d es e l h = has_self d.range d.weight 0 es e l h

stays_from : (first : Keyed Transition) (cs : List DigitChange) (k : ℕ) (e : Keyed Transition) → All IsFit cs → Contains (entries_from first (drop k cs)) e → Contains (entries_from first cs) e
stays_from first cs zero e fit h = h
stays_from first [] (suc k) e fit h = h
stays_from first (c ∷ cs) (suc k) e fit h =
    stays_at c.change c.digit (entries_from first cs) e (All-head IsFit c cs fit).digit.range (stays_from first cs k e (All-tail IsFit c cs fit) h)

pub row_small : (class : ℕ) (cs : List DigitChange) (k : ℕ) (e : Keyed Transition) → IsRow cs → Contains (entries_from (first_entry class cs) (drop k cs)) e → (e.item.source < 2 ^ 24) × (e.key < 2 ^ 24)
row_small class cs k e row h =
    let leads = group_leads class cs row e (stays_from (first_entry class cs) cs k e row.fit h) in
    let a = leads.1 in
    let b = leads.2 in
    let small = row.small in
    (omega arith, omega arith)

-- ---- copies as they are made

module _ (first : ℕ) (old : List (Keyed Transition)) where
  -- the entry at an index from `first` on, and its copy
  pub copy_next : (s t i : ℕ) (d : Keyed Transition) → first ≤ i → i < length old →
      map (shifted s t) (take (i + 1 - first) (drop first old)) ≡ map (shifted s t) (take (i - first) (drop first old)) ++ shifted s t (get_or old i d) ∷ []
  copy_next s t i d low l =
      let next : i + 1 - first ≡ (i - first) + 1 = omega arith in
      let place : first + (i - first) ≡ i = omega arith in
      let inside : i - first < length (drop first old) = omega (arith, length-drop first old) in
      let read : get_or (drop first old) (i - first) d ≡ get_or old i d = get_or-drop first old (i - first) d ∙ ap (λ (n : ℕ). get_or old n d) place in
      ap (λ (n : ℕ). map (shifted s t) (take n (drop first old))) next
      ∙ ap (map (shifted s t)) (take_more (drop first old) (i - first) d inside)
      ∙ map-append (shifted s t) (take (i - first) (drop first old)) (get_or (drop first old) (i - first) d ∷ [])
      ∙ ap (λ (x : Keyed Transition). map (shifted s t) (take (i - first) (drop first old)) ++ shifted s t x ∷ []) read

  pub entry_in : (count i : ℕ) (d : Keyed Transition) → first ≤ i → i < first + count → first + count ≤ length old → Contains (take count (drop first old)) (get_or old i d)
  entry_in count i d low l m =
      let x = get_or old i d in
      let place : first + (i - first) ≡ i = omega arith in
      let long = length-drop first old in (
        i - first,
        omega (arith, length-take-le count (drop first old) (omega arith)),
        get_or-take count (drop first old) (i - first) x (omega arith) ∙ get_or-drop first old (i - first) x ∙ ap (λ (n : ℕ). get_or old n x) place ∙ get_or_default old i x d (omega arith),
      )

  pub copies_front : (n s t count : ℕ) (entries : List (Keyed Transition)) → first ≤ length old → 0 < n → count ≡ length (drop first old) →
      entries ≡ take first old ++ copies n s t (drop first old) → (take count (drop first entries) ≡ drop first old) × (first + count ≤ length entries)
  copies_front n s t count entries low some long is =
      let begin = copies_begin n s t (drop first old) some in
      let es = drop first old in
      let front : length (take first old) ≡ first = length-take-le first old low in
      let rest : drop first entries ≡ es ++ begin.0 =
      ap (drop first) is ∙ ap (λ (m : ℕ). drop m (take first old ++ copies n s t es)) (sym front) ∙ drop-append_seam (take first old) (copies n s t es) ∙ begin.1 in
      let whole : length entries ≡ length (take first old) + length (copies n s t es) = ap length is ∙ length-append (take first old) (copies n s t es) in
      let more : length (copies n s t es) ≡ length es + length begin.0 = ap length begin.1 ∙ length-append es begin.0 in (
        ap (take count) rest ∙ ap (λ (m : ℕ). take m (es ++ begin.0)) long ∙ take-append_seam es begin.0,
        omega arith,
      )

  pub copies_step : (n s t : ℕ) (entries more : List (Keyed Transition)) → entries ≡ take first old ++ copies n s t (drop first old) → more ≡ drop first old →
      entries ++ map (shifted (n * s) (n * t)) more ≡ take first old ++ copies (n + 1) s t (drop first old)
  copies_step n s t entries more is same =
      ap (λ (xs : List (Keyed Transition)). xs ++ map (shifted (n * s) (n * t)) more) is
      ∙ ap (λ (xs : List (Keyed Transition)). (take first old ++ copies n s t (drop first old)) ++ map (shifted (n * s) (n * t)) xs) same
      ∙ append_assoc (take first old) (copies n s t (drop first old)) (map (shifted (n * s) (n * t)) (drop first old))
      ∙ ap (λ (xs : List (Keyed Transition)). take first old ++ xs) (sym (copies_more n s t (drop first old)))

pub begin_copies : (first s t : ℕ) (old : List (Keyed Transition)) → old ≡ take first old ++ copies 1 s t (drop first old)
begin_copies first s t old = sym (ap (λ (xs : List (Keyed Transition)). take first old ++ xs) (copies_one s t (drop first old)) ∙ take-append-drop first old)

-- the entries behind the old ones
pub behind : (first : ℕ) (old made entries : List (Keyed Transition)) → first ≡ length old → entries ≡ old ++ made → (take first entries ≡ old) × (drop first entries ≡ made)
behind first old made entries long is = (
  ap (take first) is ∙ ap (λ (m : ℕ). take m (old ++ made)) long ∙ take-append_seam old made,
  ap (drop first) is ∙ ap (λ (m : ℕ). drop m (old ++ made)) long ∙ drop-append_seam old made,
)

-- ---- loops over the places of a row

module _ (ds : List Digit) (cs : List Change) (long : length cs ≡ length ds) (row : IsRow (at_digits ds cs)) (k : ℕ) (d : Digit) (c : Change) (l : k < length cs) where
  abbrev digit : Digit
  digit = get_or ds k d

  abbrev change : Change
  change = get_or cs k c

  pub count_step : (n : ℕ) → n * pair_count (drop k (at_digits ds cs)) ≡ pair_count (at_digits ds cs) →
      (n * choices_at digit.range change ≤ 2 ^ 24) × (n * choices_at digit.range change * pair_count (drop (k + 1) (at_digits ds cs)) ≡ pair_count (at_digits ds cs))
  count_step n e =
      let rest = drop (k + 1) (at_digits ds cs) in
      let some = count_some rest (All-drop IsFit (k + 1) (at_digits ds cs) row.fit) in
      let whole : n * (choices_at digit.range change * pair_count rest) ≡ pair_count (at_digits ds cs) = ap (λ (xs : List DigitChange). n * pair_count xs) (sym (from_place ds cs k d c long l)) ∙ e in
      let step = count_more n (choices_at digit.range change) (pair_count rest) (pair_count (at_digits ds cs)) whole some in
      let below = count_within (at_digits ds cs) row.fit in
      let small = row.small in
      let most = step.0 in
      (omega arith, step.1)

  pub source_step : (s : ℕ) → s + least_source (drop k (at_digits ds cs)) ≡ least_source (at_digits ds cs) →
      (s + least_before change * digit.weight < 2 ^ 24) × (s + least_before change * digit.weight + least_source (drop (k + 1) (at_digits ds cs)) ≡ least_source (at_digits ds cs))
  source_step s e =
      let next : s + (least_before change * digit.weight + least_source (drop (k + 1) (at_digits ds cs))) ≡ least_source (at_digits ds cs) =
      ap (λ (xs : List DigitChange). s + least_source xs) (sym (from_place ds cs k d c long l)) ∙ e in
      let below = (row_below (at_digits ds cs) row).0 in
      (omega arith, omega arith)

  pub target_step : (s : ℕ) → s + least_target (drop k (at_digits ds cs)) ≡ least_target (at_digits ds cs) →
      (s + least_after change * digit.weight < 2 ^ 24) × (s + least_after change * digit.weight + least_target (drop (k + 1) (at_digits ds cs)) ≡ least_target (at_digits ds cs))
  target_step s e =
      let next : s + (least_after change * digit.weight + least_target (drop (k + 1) (at_digits ds cs))) ≡ least_target (at_digits ds cs) =
      ap (λ (xs : List DigitChange). s + least_target xs) (sym (from_place ds cs k d c long l)) ∙ e in
      let below = (row_below (at_digits ds cs) row).1 in
      (omega arith, omega arith)

  -- the entries from a place on are small, with each value at its digit
  copies_small : (class t x : ℕ) (e : Keyed Transition) → copies_at change digit (entries_from (first_entry class (at_digits ds cs)) (drop (k + 1) (at_digits ds cs)))
      ≡ copies digit.range digit.weight t (entries_from (first_entry class (at_digits ds cs)) (drop (k + 1) (at_digits ds cs))) →
      Contains (entries_from (first_entry class (at_digits ds cs)) (drop (k + 1) (at_digits ds cs))) e → x < digit.range → (e.item.source + x * digit.weight < 2 ^ 24) × (e.key + x * t < 2 ^ 24)
  copies_small class t x e is h m =
      let first = first_entry class (at_digits ds cs) in
      let rest = entries_from first (drop (k + 1) (at_digits ds cs)) in
      let copy : Contains (copies_at change digit rest) (shifted (x * digit.weight) (x * t) e) =
      subst (λ (xs : List (Keyed Transition)). Contains xs (shifted (x * digit.weight) (x * t) e)) (sym is) (has_copy digit.range digit.weight t x rest e m h) in
      let all : Contains (entries_from first (drop k (at_digits ds cs))) (shifted (x * digit.weight) (x * t) e) =
      subst (λ (xs : List DigitChange). Contains (entries_from first xs) (shifted (x * digit.weight) (x * t) e)) (sym (from_place ds cs k d c long l)) copy in
      row_small class (at_digits ds cs) k (shifted (x * digit.weight) (x * t) e) row all

  pub kept_small : (class : ℕ) → change ≡ Kept → AreSmall digit.range digit.weight digit.weight (entries_from (first_entry class (at_digits ds cs)) (drop (k + 1) (at_digits ds cs)))
  kept_small class is e x h m = copies_small class digit.weight x e (ap (λ (b : Change). copies_at b digit (entries_from (first_entry class (at_digits ds cs)) (drop (k + 1) (at_digits ds cs)))) is) h m

  pub assigned_small : (class a : ℕ) → change ≡ Assigned a → AreSmall digit.range digit.weight 0 (entries_from (first_entry class (at_digits ds cs)) (drop (k + 1) (at_digits ds cs)))
  assigned_small class a is e x h m = copies_small class 0 x e (ap (λ (b : Change). copies_at b digit (entries_from (first_entry class (at_digits ds cs)) (drop (k + 1) (at_digits ds cs)))) is) h m

  -- the entries from one place more on
  entries_at : (class : ℕ) → entries_from (first_entry class (at_digits ds cs)) (drop k (at_digits ds cs))
      ≡ copies_at change digit (entries_from (first_entry class (at_digits ds cs)) (drop (k + 1) (at_digits ds cs)))
  entries_at class = ap (entries_from (first_entry class (at_digits ds cs))) (from_place ds cs k d c long l)

  module _ (class n : ℕ) (old entries : List (Keyed Transition)) (first : ℕ) (next : n ≡ k + 1) (is_first : first ≡ length old)
      (is : entries ≡ old ++ entries_from (first_entry class (at_digits ds cs)) (drop n (at_digits ds cs))) where
    pub made_behind : drop first entries ≡ entries_from (first_entry class (at_digits ds cs)) (drop (k + 1) (at_digits ds cs))
    made_behind =
        (behind first old (entries_from (first_entry class (at_digits ds cs)) (drop n (at_digits ds cs))) entries is_first is).1
        ∙ ap (λ (m : ℕ). entries_from (first_entry class (at_digits ds cs)) (drop m (at_digits ds cs))) next

    pub pairs_step : (new ys : List (Keyed Transition)) → new ≡ take first entries ++ ys → copies_at change digit (drop first entries) ≡ ys →
        new ≡ old ++ entries_from (first_entry class (at_digits ds cs)) (drop k (at_digits ds cs))
    pairs_step new ys made copied =
        made ∙ ap (λ (xs : List (Keyed Transition)). xs ++ ys) (behind first old (entries_from (first_entry class (at_digits ds cs)) (drop n (at_digits ds cs))) entries is_first is).0
        ∙ ap (λ (xs : List (Keyed Transition)). old ++ xs) (sym copied ∙ ap (copies_at change digit) made_behind ∙ sym (entries_at class))

    pub pairs_same : ((es : List (Keyed Transition)) → copies_at change digit es ≡ es) → entries ≡ old ++ entries_from (first_entry class (at_digits ds cs)) (drop k (at_digits ds cs))
    pairs_same same =
        is ∙ ap (λ (m : ℕ). old ++ entries_from (first_entry class (at_digits ds cs)) (drop m (at_digits ds cs))) next
        ∙ ap (λ (xs : List (Keyed Transition)). old ++ xs)
        (sym (same (entries_from (first_entry class (at_digits ds cs)) (drop (k + 1) (at_digits ds cs)))) ∙ sym (entries_at class))
