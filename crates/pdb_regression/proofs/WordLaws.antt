-- The word of an abstract state tells which classes lead into it.
use Rattle.std.proofs.Common.{◌≡◌, ℕ, ◌+◌, ◌-◌, ◌*◌, ◌/◌, ◌%◌, ◌^◌, ◌<◌, ◌≤◌, Bool, true, false, List, [], ◌∷◌, ◌++◌, length, map, take, drop, get_or, refl, sym, ap, ◌∙◌, subst, arith, ⊎_elim, eq-eqb, append_assoc, add-one, drop-cons}
use Rattle.std.specs.Prelude.{◌==◌, ◌↔◌, All, slice_index}
use Rattle.std.specs.List.{list_all}
use Rattle.std.specs.Int.RustNames.{bit_and}
use Rattle.std.specs.Int.Bits.{and_zero_r}
use Rattle.std.proofs.lemmas.List.Elements.{All-head, All-tail, All-cons, All-nil}
use Rattle.std.proofs.lemmas.Bool.{cases_lt, eqb-true, and_from, and_parts}
use Rattle.std.proofs.lemmas.Nat.{mod_below, div_below, mul-le, and_mask, and_block, and_le_l, leading_length, pow_pos}
use Rattle.std.proofs.Math.Nat.{mod-add-div, mod-eq_of_lt, div-div-eq-div-mul}
use Rattle.std.proofs.Math.Pow.{pow_mono}
use Rattle.fdr.specs.Tasks.{ranges}
use Rattle.abstraction.specs.declared.digit.Digit.{Digit}
use Rattle.abstraction.specs.Digits.{value_of, IsDigitBelow, digits_from}
use Rattle.abstraction.specs.Projections.{Projection, size_of}
use Rattle.abstraction.specs.ProjectionLaws.{quotient, remainder}
use Rattle.abstraction_groups.specs.declared.change.Change.{Change}
use Rattle.abstraction_groups.specs.declared.change.Change.TheVariants.{Kept, Required, Moved, Assigned}
use Rattle.abstraction_groups.specs.declared.change.DigitChange.{DigitChange}
use Rattle.abstraction_groups.specs.Changes.{FitsIn, IsFit, size_by}
use Rattle.pdb_regression.specs.Changes.{enters_at, enters_digit}
use Rattle.pdb_regression.specs.Words.{bits_of, room_of, size_from, rooms_of, word_from, word_by, mask_at, want_at, mask_by, want_by, IsPlain}
use Rattle.pdb_regression.specs.Rules.{unpacked}
use Rattle.pdb_regression.specs.Tables.{IsAlong, no_change}
use Rattle.pdb_regression.proofs.Bounds.{at_first, below_product, digit_more}
use Rattle.pdb_regression.proofs.RowLaws.{projection_digits}

-- ---- rooms

-- the bits hold each value, and fewer than twice as many numbers
room_bounds : (r : ℕ) → 0 < r → r ≤ 2 ^ 24 → (r ≤ room_of r) × (room_of r ≤ 2 * (r - 1) + 1)
room_bounds r some small =
    let below : r - 1 < 2 ^ 64 = omega arith in
    let t = leading_length 64 (r - 1) below in
    let same : t.0 ≡ bits_of r = omega (arith, t.1) in
    let least : r ≤ 2 ^ t.0 = omega (arith, t.2) in
    (subst (λ (m : ℕ). r ≤ 2 ^ m) same least, subst (λ (m : ℕ). 2 ^ m ≤ 2 * (r - 1) + 1) same t.3)

pub room_enough : (r : ℕ) → 0 < r → r ≤ 2 ^ 24 → r ≤ room_of r
room_enough r some small = (room_bounds r some small).0

pub room_small : (r : ℕ) → 0 < r → r ≤ 2 ^ 24 → room_of r < 2 ^ 25
room_small r some small = omega (arith, (room_bounds r some small).1)

pub bits_small : (r : ℕ) → 0 < r → r ≤ 2 ^ 24 → bits_of r < 64
bits_small r some small =
    ⊎_elim
    (λ (l : bits_of r < 64). l)
    (λ (l : 64 ≤ bits_of r). let big : 2 ^ 64 ≤ room_of r = pow_mono l in absurd (omega (arith, room_small r some small)))
    (cases_lt (bits_of r) 64)

square_more : (k : ℕ) → 2 * k + 1 ≤ (k + 1) * (k + 1)
square_more k = omega arith

room_square : (r : ℕ) → 0 < r → r ≤ 2 ^ 24 → room_of r ≤ r * r
room_square r some small =
    let e : r - 1 + 1 ≡ r = omega arith in
    let square : (r - 1 + 1) * (r - 1 + 1) ≡ r * r = ap (λ (n : ℕ). n * n) e in
    omega (arith, (room_bounds r some small).1, square_more (r - 1))

pub range_small : (d : Digit) → IsDigitBelow (2 ^ 24) d → d.range ≤ 2 ^ 24
range_small d is = let some = is.weight in let within = is.within in omega (arith, mul-le d.range 1 d.range d.weight (omega arith) (omega arith))

pub digit_room : (d : Digit) → IsDigitBelow (2 ^ 24) d → (d.range ≤ room_of d.range) × (room_of d.range ≤ d.range * d.range)
digit_room d is = (room_enough d.range is.range (range_small d is), room_square d.range is.range (range_small d is))

pub rooms_positive : (ds : List Digit) → 0 < rooms_of ds
rooms_positive [] = omega arith
rooms_positive (d ∷ ds) =
    omega (arith, mul-le 1 1 (room_of d.range) (rooms_of ds) (let here = pow_pos (bits_of d.range) in omega arith) (let rest = rooms_positive ds in omega arith))

pub rooms_square : (ds : List Digit) → All (IsDigitBelow (2 ^ 24)) ds → rooms_of ds ≤ size_from ds * size_from ds
rooms_square [] all = omega arith
rooms_square (d ∷ ds) all =
    let here = (digit_room d (All-head (IsDigitBelow (2 ^ 24)) d ds all)).1 in
    let rest = rooms_square ds (All-tail (IsDigitBelow (2 ^ 24)) d ds all) in
    omega (arith, mul-le (room_of d.range) (rooms_of ds) (d.range * d.range) (size_from ds * size_from ds) here rest)

square_small : (n m : ℕ) → n ≤ 2 ^ 24 → m ≤ n * n → m ≤ 2 ^ 48
square_small n m l h = omega (arith, mul-le n n (2 ^ 24) (2 ^ 24) l l)

size_told : (rs : List ℕ) (w : ℕ) (ps : List ℕ) → size_from (digits_from rs w ps) ≡ size_of rs ps
size_told rs w [] = refl
size_told rs w (p ∷ ps) = ap (λ (n : ℕ). slice_index rs p * n) (size_told rs (w * slice_index rs p) ps)

pub projection_rooms : (p : Projection) → rooms_of (digits_from (ranges p.task) 1 p.pattern) ≤ 2 ^ 48
projection_rooms p =
    let ds = digits_from (ranges p.task) 1 p.pattern in
    let small = p.small in
    square_small (size_from ds) (rooms_of ds) (omega (arith, size_told (ranges p.task) 1 p.pattern)) (rooms_square ds (projection_digits p))

pub projection_size : (p : Projection) (j : ℕ) → j < size_of (ranges p.task) p.pattern → j < size_from (digits_from (ranges p.task) 1 p.pattern)
projection_size p j l = omega (arith, size_told (ranges p.task) 1 p.pattern)

-- ---- the word of a number

pub first_of : (ds : List Digit) (k : ℕ) (d : Digit) → k < length ds → drop k ds ≡ get_or ds k d ∷ drop (k + 1) ds
first_of ds k d l = rw (add-one, drop-cons ds k d) refl

pub word_small : (ds : List Digit) (n : ℕ) → All (IsDigitBelow (2 ^ 24)) ds → word_from n ds < rooms_of ds
word_small [] n all = omega arith
word_small (d ∷ ds) n all =
    let is = All-head (IsDigitBelow (2 ^ 24)) d ds all in
    let low : n % d.range < d.range = mod_below n d.range is.range in
    below_product (room_of d.range) (rooms_of ds) (n % d.range) (word_from (n / d.range) ds) (omega (arith, (digit_room d is).0)) (word_small ds (n / d.range) (All-tail (IsDigitBelow (2 ^ 24)) d ds all))

pub word_plain : (ds : List Digit) (n : ℕ) → All (IsDigitBelow (2 ^ 24)) ds → All IsPlain ds → n < size_from ds → word_from n ds ≡ n
word_plain [] n all plain l = omega arith
word_plain (d ∷ ds) n all plain l =
    let is = All-head (IsDigitBelow (2 ^ 24)) d ds all in
    let same : room_of d.range ≡ d.range = All-head IsPlain d ds plain in
    let rest = word_plain ds (n / d.range) (All-tail (IsDigitBelow (2 ^ 24)) d ds all) (All-tail IsPlain d ds plain) (div_below n d.range (size_from ds) is.range (omega arith)) in
    ap (λ (r : ℕ). n % d.range + r * word_from (n / d.range) ds) same ∙ ap (λ (m : ℕ). n % d.range + d.range * m) rest ∙ mod-add-div n d.range

-- one value more is in the list
pub values_more : (front rest : List Digit) (d : Digit) (above : ℕ) (old new whole : List ℕ) → front ≡ d ∷ rest → old ++ unpacked above front ≡ whole → new ≡ old ++ above % d.range ∷ [] →
    new ++ unpacked (above / d.range) rest ≡ whole
values_more front rest d above old new whole e known pushed =
    ap (λ (xs : List ℕ). xs ++ unpacked (above / d.range) rest) pushed ∙ append_assoc old (above % d.range ∷ []) (unpacked (above / d.range) rest)
    ∙ subst (λ (xs : List Digit). old ++ unpacked above xs ≡ whole) e known

-- one digit more of the word is known, and it fits into 64 bits
module _ (whole front rest : List Digit) (d : Digit) (j word scale above : ℕ) (all : All (IsDigitBelow (2 ^ 24)) whole) (small : rooms_of whole ≤ 2 ^ 48) (e : front ≡ d ∷ rest)
    (known : word + scale * word_from above front ≡ word_from j whole) (scaled : scale * rooms_of front ≡ rooms_of whole) where
  opened : word + scale * (above % d.range + room_of d.range * word_from (above / d.range) rest) ≡ word_from j whole
  opened = subst (λ (xs : List Digit). word + scale * word_from above xs ≡ word_from j whole) e known

  pub read_more : word + above % d.range * scale + scale * room_of d.range * word_from (above / d.range) rest ≡ word_from j whole
  read_more = omega (arith, opened)

  pub read_fits : (above % d.range * scale < 2 ^ 64) × (word + above % d.range * scale < 2 ^ 64)
  read_fits = let below = word_small whole j all in (omega (arith, read_more), omega (arith, read_more))

  pub scale_more : scale * room_of d.range * rooms_of rest ≡ rooms_of whole
  scale_more =
      let shown : scale * (room_of d.range * rooms_of rest) ≡ rooms_of whole = subst (λ (xs : List Digit). scale * rooms_of xs ≡ rooms_of whole) e scaled in
      omega (arith, shown)

  pub scale_fits : scale * room_of d.range < 2 ^ 64
  scale_fits =
      let some = rooms_positive rest in
      omega (arith, scale_more, mul-le (scale * room_of d.range) 1 (scale * room_of d.range) (rooms_of rest) (omega arith) (omega arith))

-- ---- the word by the values at the digits

pub word_told : (rs : List ℕ) (w j : ℕ) (ps : List ℕ) (cs : List DigitChange) → IsAlong (digits_from rs w ps) cs → word_from (j / w) (digits_from rs w ps) ≡ word_by j cs
word_told rs w j [] [] e = refl
word_told rs w j [] (c ∷ cs) e = absurd (cc)
word_told rs w j (p ∷ ps) [] e = absurd (cc)
word_told rs w j (p ∷ ps) (c ∷ cs) e =
    let r = slice_index rs p in
    let here : record { weight = w; range = r } ≡ c.digit = cc in
    let rest : IsAlong (digits_from rs (w * r) ps) cs = cc in
    ap (λ (n : ℕ). j / w % r + room_of r * n) (ap (λ (m : ℕ). word_from m (digits_from rs (w * r) ps)) (div-div-eq-div-mul j w r) ∙ word_told rs (w * r) j ps cs rest)
    ∙ ap (λ (d : Digit). value_of d j + room_of d.range * word_by j cs) here

pub word_whole : (p : Projection) (j : ℕ) (cs : List DigitChange) → IsAlong (digits_from (ranges p.task) 1 p.pattern) cs → word_from j (digits_from (ranges p.task) 1 p.pattern) ≡ word_by j cs
word_whole p j cs along =
    let whole : j ≡ j / 1 = omega arith in
    ap (λ (n : ℕ). word_from n (digits_from (ranges p.task) 1 p.pattern)) whole ∙ word_told (ranges p.task) 1 j p.pattern cs along

-- ---- masks

abbrev digits_by : List DigitChange → List Digit
digits_by cs = map (λ c. c.digit) cs

fit_digits : (cs : List DigitChange) → All IsFit cs → All (IsDigitBelow (2 ^ 24)) (digits_by cs)
fit_digits [] all = All-nil (IsDigitBelow (2 ^ 24))
fit_digits (c ∷ cs) all =
    let fit = All-head IsFit c cs all in
    All-cons (IsDigitBelow (2 ^ 24)) c.digit (digits_by cs) fit.digit (fit_digits cs (All-tail IsFit c cs all))

size_same : (cs : List DigitChange) → size_from (digits_by cs) ≡ size_by cs
size_same [] = refl
size_same (c ∷ cs) = ap (λ (n : ℕ). c.digit.range * n) (size_same cs)

change_fits : (r room : ℕ) (change : Change) → 0 < r → r ≤ room → FitsIn r change → (mask_at room change < room) × (want_at change < room)
change_fits r room Kept some l fits = (omega arith, omega arith)
change_fits r room (Required c) some l fits = (omega arith, omega arith)
change_fits r room (Moved from to) some l fits = (omega arith, let h = fits.1 in omega arith)
change_fits r room (Assigned e) some l fits = (omega arith, omega arith)

masks_small : (cs : List DigitChange) → All IsFit cs → (mask_by cs < rooms_of (digits_by cs)) × (want_by cs < rooms_of (digits_by cs))
masks_small [] all = (omega arith, omega arith)
masks_small (c ∷ cs) all =
    let fit = All-head IsFit c cs all in
    let room = room_of c.digit.range in
    let here = change_fits c.digit.range room c.change fit.digit.range (digit_room c.digit fit.digit).0 fit.change in
    let rest = masks_small cs (All-tail IsFit c cs all) in (
      below_product room (rooms_of (digits_by cs)) (mask_at room c.change) (mask_by cs) here.0 rest.0,
      below_product room (rooms_of (digits_by cs)) (want_at c.change) (want_by cs) here.1 rest.1,
    )

-- the ranges of the first change, and the products and the sums that make up one more change
pub record MaskSteps (c : DigitChange) (cs : List DigitChange) : Type 0 where
  pub some : 0 < c.digit.range
  pub small : c.digit.range ≤ 2 ^ 24
  pub mask_product : room_of c.digit.range * mask_by cs < 2 ^ 64
  pub mask_sum : mask_at (room_of c.digit.range) c.change + room_of c.digit.range * mask_by cs < 2 ^ 64
  pub want_product : room_of c.digit.range * want_by cs < 2 ^ 64
  pub want_sum : want_at c.change + room_of c.digit.range * want_by cs < 2 ^ 64

pub mask_steps : (cs : List DigitChange) → 1 ≤ length cs → All IsFit cs → size_by cs ≤ 2 ^ 24 → MaskSteps (get_or cs 0 no_change) (take (length cs - 1) (drop 1 cs))
mask_steps cs long all small = at_first MaskSteps cs long all small (λ c rest fit few.
    let ds = digits_by (c ∷ rest) in
    let room = room_of c.digit.range in
    let digit = All-head IsFit c rest fit in
    let here = change_fits c.digit.range room c.change digit.digit.range (digit_room c.digit digit.digit).0 digit.change in
    let behind = masks_small rest (All-tail IsFit c rest fit) in
    let same : size_from ds ≡ size_by (c ∷ rest) = size_same (c ∷ rest) in
    let few_rooms : rooms_of ds ≤ 2 ^ 48 = square_small (size_from ds) (rooms_of ds) (omega arith) (rooms_square ds (fit_digits (c ∷ rest) fit)) in
    let within : room * rooms_of (digits_by rest) ≤ 2 ^ 64 = omega arith in
    let mask = digit_more room (rooms_of (digits_by rest)) (mask_at room c.change) (mask_by rest) (2 ^ 64) here.0 behind.0 within in
    let want = digit_more room (rooms_of (digits_by rest)) (want_at c.change) (want_by rest) (2 ^ 64) here.1 behind.1 within in
    record { some = digit.digit.range; small = range_small c.digit digit.digit; mask_product = mask.0; mask_sum = mask.1; want_product = want.0; want_sum = want.1 })

-- ---- tests

low_bits : (y k : ℕ) → y < 2 ^ k → bit_and y (2 ^ k - 1) ≡ y
low_bits y k l = and_mask y k ∙ mod-eq_of_lt l

tested_at : (change : Change) (y k : ℕ) → y < 2 ^ k → (bit_and y (mask_at (2 ^ k) change) ≡ want_at change) ↔ (enters_at change y ≡ true)
tested_at Kept y k l = (λ e. refl, λ e. and_zero_r y)
tested_at (Required c) y k l = (λ e. eq-eqb y c (sym (low_bits y k l) ∙ e), λ e. low_bits y k l ∙ eqb-true y c e)
tested_at (Moved from to) y k l = (λ e. eq-eqb y to (sym (low_bits y k l) ∙ e), λ e. low_bits y k l ∙ eqb-true y to e)
tested_at (Assigned x) y k l = (λ e. eq-eqb y x (sym (low_bits y k l) ∙ e), λ e. low_bits y k l ∙ eqb-true y x e)

-- the bits of a digit and those above it
split_and : (k y w m n : ℕ) → y < 2 ^ k → m < 2 ^ k → bit_and (y + 2 ^ k * w) (m + 2 ^ k * n) ≡ bit_and y m + 2 ^ k * bit_and w n
split_and k y w m n l h =
    let first : y + 2 ^ k * w ≡ w * 2 ^ k + y = omega arith in
    let second : m + 2 ^ k * n ≡ n * 2 ^ k + m = omega arith in
    let last : bit_and w n * 2 ^ k + bit_and y m ≡ bit_and y m + 2 ^ k * bit_and w n = omega arith in
    ap (λ (a : ℕ). bit_and a (m + 2 ^ k * n)) first ∙ ap (λ (b : ℕ). bit_and (w * 2 ^ k + y) b) second ∙ and_block k w n y m l h ∙ last

tested_more : (j : ℕ) (c : DigitChange) (cs : List DigitChange) → IsFit c → (bit_and (word_by j cs) (mask_by cs) ≡ want_by cs) ↔ (list_all (enters_digit j) cs ≡ true) →
    (bit_and (word_by j (c ∷ cs)) (mask_by (c ∷ cs)) ≡ want_by (c ∷ cs)) ↔ (list_all (enters_digit j) (c ∷ cs) ≡ true)
tested_more j c cs fit rest = (to, from)
  where
    room : ℕ
    room = room_of c.digit.range

    y : ℕ
    y = value_of c.digit j

    low : y < room
    low = let below : y < c.digit.range = mod_below (j / c.digit.weight) c.digit.range fit.digit.range in omega (arith, (digit_room c.digit fit.digit).0)

    fits : (mask_at room c.change < room) × (want_at c.change < room)
    fits = change_fits c.digit.range room c.change fit.digit.range (digit_room c.digit fit.digit).0 fit.change

    here : (bit_and y (mask_at room c.change) ≡ want_at c.change) ↔ (enters_at c.change y ≡ true)
    here = tested_at c.change y (bits_of c.digit.range) low

    split : bit_and (word_by j (c ∷ cs)) (mask_by (c ∷ cs)) ≡ bit_and y (mask_at room c.change) + room * bit_and (word_by j cs) (mask_by cs)
    split = split_and (bits_of c.digit.range) y (word_by j cs) (mask_at room c.change) (mask_by cs) low fits.0

    small : bit_and y (mask_at room c.change) < room
    small = omega (arith, and_le_l y (mask_at room c.change), low)

    to : bit_and (word_by j (c ∷ cs)) (mask_by (c ∷ cs)) ≡ want_by (c ∷ cs) → list_all (enters_digit j) (c ∷ cs) ≡ true
    to e =
        let same : bit_and y (mask_at room c.change) + room * bit_and (word_by j cs) (mask_by cs) ≡ want_at c.change + room * want_by cs = sym split ∙ e in
        let first : bit_and y (mask_at room c.change) ≡ want_at c.change =
        sym (remainder (bit_and y (mask_at room c.change)) room (bit_and (word_by j cs) (mask_by cs)) small) ∙ ap (λ (n : ℕ). n % room) same ∙ remainder (want_at c.change) room (want_by cs) fits.1 in
        let above : bit_and (word_by j cs) (mask_by cs) ≡ want_by cs =
        sym (quotient (bit_and y (mask_at room c.change)) room (bit_and (word_by j cs) (mask_by cs)) small) ∙ ap (λ (n : ℕ). n / room) same ∙ quotient (want_at c.change) room (want_by cs) fits.1 in
        and_from (enters_digit j c) (list_all (enters_digit j) cs) (here.0 first) (rest.0 above)

    from : list_all (enters_digit j) (c ∷ cs) ≡ true → bit_and (word_by j (c ∷ cs)) (mask_by (c ∷ cs)) ≡ want_by (c ∷ cs)
    from e =
        let parts = and_parts (enters_digit j c) (list_all (enters_digit j) cs) e in
        split ∙ ap (λ (n : ℕ). n + room * bit_and (word_by j cs) (mask_by cs)) (here.1 parts.0) ∙ ap (λ (n : ℕ). want_at c.change + room * n) (rest.1 parts.1)

tested : (j : ℕ) (cs : List DigitChange) → All IsFit cs → (bit_and (word_by j cs) (mask_by cs) ≡ want_by cs) ↔ (list_all (enters_digit j) cs ≡ true)
tested j [] all = (λ e. refl, λ e. refl)
tested j (c ∷ cs) all = tested_more j c cs (All-head IsFit c cs all) (tested j cs (All-tail IsFit c cs all))

same_tests : (b c : Bool) → (b ≡ true → c ≡ true) → (c ≡ true → b ≡ true) → b ≡ c
same_tests true true f g = refl
same_tests true false f g = sym (f refl)
same_tests false true f g = g refl
same_tests false false f g = refl

-- a class leads into an abstract state where its test on the word holds
pub entered_told : (cs : List DigitChange) (j word : ℕ) → All IsFit cs → word ≡ word_by j cs → (bit_and word (mask_by cs) == want_by cs) ≡ list_all (enters_digit j) cs
entered_told cs j word all e =
    same_tests (bit_and word (mask_by cs) == want_by cs) (list_all (enters_digit j) cs)
    (λ t. (tested j cs all).0 (ap (λ (w : ℕ). bit_and w (mask_by cs)) (sym e) ∙ eqb-true (bit_and word (mask_by cs)) (want_by cs) t))
    (λ t. eq-eqb (bit_and word (mask_by cs)) (want_by cs) (ap (λ (w : ℕ). bit_and w (mask_by cs)) e ∙ (tested j cs all).1 t))
