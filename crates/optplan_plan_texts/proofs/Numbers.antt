-- Numbers by their digits: the first place at which two numbers of equal length differ decides which is less.
use Rattle.std.proofs.Common.{◌≡◌, ◌≢◌, ℕ, zero, suc, ◌+◌, ◌*◌, ◌-◌, ◌^◌, ◌<◌, ◌≤◌, Bool, true, false, cond, ◌&&◌, ltb, leb, List, [], ◌∷◌, ◌++◌, length, get_or, refl, sym, ap, ◌∙◌, arith, rules, inl, inr, ◌⊎◌}
use Rattle.std.specs.Prelude.{nat_le, nat_lt, replicate, max}
use Rattle.std.specs.List.{list_all}
use Rattle.std.proofs.lemmas.Bool.{lt-ltb, leb-true, ltb-true, ltb-false, false≢true}
use Rattle.std.proofs.lemmas.List.{length-append, length-replicate, ext_get_or}
use Rattle.std.proofs.lemmas.List.Folds.{list_all-append}
use Rattle.std.proofs.lemmas.Nat.{pow-add}
use Rattle.std.proofs.Math.Nat.{pow-suc}
use Rattle.optplan_plan_texts.specs.Bytes.{is_digit, digits, after_digits, begins_with_digit}
use Rattle.optplan_plan_texts.specs.Decimals.{Decimal, HasDigits, fraction, decimal_at, number, in_units, is_less}
use Rattle.optplan_plan_texts.specs.Passes.{aligned}

-- ---- digits

abbrev AreDigits : List ℕ → Type 0
AreDigits ds = list_all is_digit ds ≡ true

both_true : (a b : Bool) → (a && b) ≡ true → (a ≡ true) × (b ≡ true)
both_true true b h = (refl, h)
both_true false b h = absurd (false≢true h)

true_both : (a b : Bool) → a ≡ true → b ≡ true → (a && b) ≡ true
true_both true b h k = k
true_both false b h k = absurd (false≢true h)

digit_range : (d : ℕ) → is_digit d ≡ true → (48 ≤ d) × (d ≤ 57)
digit_range d h =
    let b = both_true (leb 48 d) (leb d 57) h in
    (leb-true 48 d b.0, leb-true d 57 b.1)

digits_if : (b : ℕ) (bs : List ℕ) (t : Bool) → is_digit b ≡ t → AreDigits bs → AreDigits (cond t (b ∷ bs) [])
digits_if b bs true e h = true_both (is_digit b) (list_all is_digit bs) e h
digits_if b bs false e h = refl

are_digits : (bs : List ℕ) → AreDigits (digits bs)
are_digits [] = refl
are_digits (b ∷ bs) = digits_if b (digits bs) (is_digit b) refl (are_digits bs)

fraction_if : (t : Bool) (bs : List ℕ) → AreDigits (cond t (digits bs) [])
fraction_if true bs = are_digits bs
fraction_if false bs = refl

are_digits_after : (bs : List ℕ) → AreDigits (fraction bs)
are_digits_after [] = refl
are_digits_after (b ∷ bs) = fraction_if _ bs

pub has_digits : (bytes : List ℕ) → HasDigits (decimal_at bytes)
has_digits bytes = record { whole = are_digits bytes; fraction = are_digits_after (after_digits bytes) }

-- ---- values

zero_times : (n p m : ℕ) → n ≡ 0 → n * p + m ≡ m
zero_times n p m e = let product : n * p ≡ 0 * p = ap (λ (x : ℕ). x * p) e in omega (arith, product)

product_sum : (d a b n m : ℕ) → d * (a * b) + (n * b + m) ≡ (d * a + n) * b + m
product_sum d a b n m = omega arith

number_append : (xs ys : List ℕ) → number (xs ++ ys) ≡ number xs * 10 ^ length ys + number ys
number_append [] ys = sym (zero_times 0 (10 ^ length ys) (number ys) refl)
number_append (x ∷ xs) ys =
    let rest = number_append xs ys in
    let power : 10 ^ length (xs ++ ys) ≡ 10 ^ length xs * 10 ^ length ys = ap (λ (n : ℕ). 10 ^ n) (length-append xs ys) ∙ pow-add 10 (length xs) (length ys) in
    let first : (x - 48) * 10 ^ length (xs ++ ys) ≡ (x - 48) * (10 ^ length xs * 10 ^ length ys) = ap (λ (p : ℕ). (x - 48) * p) power in
    let sum : (x - 48) * 10 ^ length (xs ++ ys) + number (xs ++ ys) ≡ (x - 48) * (10 ^ length xs * 10 ^ length ys) + (number xs * 10 ^ length ys + number ys) =
    ap (λ (p : ℕ). p + number (xs ++ ys)) first ∙ ap (λ (p : ℕ). (x - 48) * (10 ^ length xs * 10 ^ length ys) + p) rest in
    sum ∙ product_sum (x - 48) (10 ^ length xs) (10 ^ length ys) (number xs) (number ys)

number_zeros : (n : ℕ) → number (replicate n 48) ≡ 0
number_zeros zero = refl
number_zeros (suc n) = omega (arith, number_zeros n)

below_ten : (d p n : ℕ) → d ≤ 9 → n < p → d * p + n < p * 10
below_ten d p n le lt = grind arith

number_below : (ds : List ℕ) → AreDigits ds → number ds < 10 ^ length ds
number_below [] h = omega arith
number_below (d ∷ ds) h =
    let b = both_true (is_digit d) (list_all is_digit ds) h in
    let r = digit_range d b.0 in
    let below : (d - 48) * 10 ^ length ds + number ds < 10 ^ length ds * 10 = below_ten (d - 48) (10 ^ length ds) (number ds) (omega (arith, r.0, r.1)) (number_below ds b.1) in
    let power : 10 ^ suc (length ds) ≡ 10 ^ length ds * 10 = pow-suc 10 (length ds) in
    omega (arith, below, power)

-- ---- the first place at which they differ

less_first : (x y p m n : ℕ) → x < y → m < p → x * p + m < y * p + n
less_first x y p m n lt below = grind arith

pub less_at : (i : ℕ) (xs ys : List ℕ) → length xs ≡ length ys → AreDigits xs → AreDigits ys → ((k : ℕ) → k < i → get_or xs k 48 ≡ get_or ys k 48)
    → i < length xs → get_or xs i 48 < get_or ys i 48 → number xs < number ys
less_at i [] ys len p q same lt less = absurd (omega (arith, lt))
less_at i (x ∷ xs) [] len p q same lt less = absurd (omega (arith, len))
less_at zero (x ∷ xs) (y ∷ ys) len p q same lt less =
    let a = both_true (is_digit x) (list_all is_digit xs) p in
    let b = both_true (is_digit y) (list_all is_digit ys) q in
    let power : 10 ^ length xs ≡ 10 ^ length ys = ap (λ (n : ℕ). 10 ^ n) (omega (arith, len)) in
    let below : number xs < 10 ^ length ys = omega (arith, number_below xs a.1, power) in
    let r = digit_range x a.0 in
    let less' : (x - 48) * 10 ^ length ys + number xs < (y - 48) * 10 ^ length ys + number ys =
    less_first (x - 48) (y - 48) (10 ^ length ys) (number xs) (number ys) (omega (arith, less, r.0)) below in
    let first : (x - 48) * 10 ^ length xs ≡ (x - 48) * 10 ^ length ys = ap (λ (n : ℕ). (x - 48) * n) power in
    omega (arith, less', first)
less_at (suc i) (x ∷ xs) (y ∷ ys) len p q same lt less =
    let a = both_true (is_digit x) (list_all is_digit xs) p in
    let b = both_true (is_digit y) (list_all is_digit ys) q in
    let rest : number xs < number ys = less_at i xs ys (omega (arith, len)) a.1 b.1 (λ k h. same (suc k) (omega (arith, h))) (omega (arith, lt)) less in
    let power : 10 ^ length xs ≡ 10 ^ length ys = ap (λ (n : ℕ). 10 ^ n) (omega (arith, len)) in
    let head : x ≡ y = same zero (omega arith) in
    let first : (x - 48) * 10 ^ length xs ≡ (y - 48) * 10 ^ length ys = ap (λ (n : ℕ). (n - 48) * 10 ^ length xs) head ∙ ap (λ (n : ℕ). (y - 48) * n) power in
    omega (arith, rest, first)

-- ---- numbers with zeros at their ends

-- the digits of a number, with zeros after them up to this many after the point
abbrev padded : ℕ → ℕ → Decimal → List ℕ
padded wholes places d = aligned wholes d ++ replicate (places - length d.fraction) 48

abbrev digit_0 : ℕ
digit_0 = 48

get_zeros : (m k : ℕ) → get_or (replicate m digit_0) k digit_0 ≡ digit_0
get_zeros zero k = refl
get_zeros (suc m) zero = refl
get_zeros (suc m) (suc k) = get_zeros m k

get_padded : (xs : List ℕ) (m k : ℕ) → get_or (xs ++ replicate m 48) k 48 ≡ get_or xs k 48
get_padded [] m k = get_zeros m k
get_padded (x ∷ xs) m zero = refl
get_padded (x ∷ xs) m (suc k) = get_padded xs m k

zeros_are_digits : (m : ℕ) → AreDigits (replicate m 48)
zeros_are_digits zero = refl
zeros_are_digits (suc m) = zeros_are_digits m

digits_append : (xs ys : List ℕ) → AreDigits xs → AreDigits ys → AreDigits (xs ++ ys)
digits_append xs ys p q = list_all-append is_digit xs ys ∙ true_both (list_all is_digit xs) (list_all is_digit ys) p q

padded_digits : (wholes places : ℕ) (d : Decimal) → HasDigits d → AreDigits (padded wholes places d)
padded_digits wholes places d h =
    digits_append (aligned wholes d) (replicate (places - length d.fraction) 48)
    (digits_append (replicate (wholes - length d.whole) 48) (d.whole ++ d.fraction) (zeros_are_digits (wholes - length d.whole)) (digits_append d.whole d.fraction h.whole h.fraction))
    (zeros_are_digits (places - length d.fraction))

padded_length : (wholes places : ℕ) (d : Decimal) → length d.whole ≤ wholes → length d.fraction ≤ places → length (padded wholes places d) ≡ wholes + places
padded_length wholes places d p q =
    omega (
      arith,
      length-append (aligned wholes d) (replicate (places - length d.fraction) 48),
      length-append (replicate (wholes - length d.whole) 48) (d.whole ++ d.fraction),
      length-append d.whole d.fraction,
      length-replicate (wholes - length d.whole) digit_0,
      length-replicate (places - length d.fraction) digit_0,
    )

padded_number : (wholes places : ℕ) (d : Decimal) → number (padded wholes places d) ≡ in_units places d
padded_number wholes places d =
    let zeros = replicate (places - length d.fraction) 48 in
    let front = replicate (wholes - length d.whole) 48 in
    let all : number (padded wholes places d) ≡ number (aligned wholes d) * 10 ^ length zeros + number zeros = number_append (aligned wholes d) zeros in
    let after : number zeros ≡ 0 = number_zeros (places - length d.fraction) in
    let before : number (aligned wholes d) ≡ number (d.whole ++ d.fraction) =
    number_append front (d.whole ++ d.fraction) ∙ zero_times (number front) (10 ^ length (d.whole ++ d.fraction)) (number (d.whole ++ d.fraction)) (number_zeros (wholes - length d.whole)) in
    let power : number (aligned wholes d) * 10 ^ length zeros ≡ number (d.whole ++ d.fraction) * 10 ^ (places - length d.fraction) =
    ap (λ (n : ℕ). n * 10 ^ length zeros) before ∙ ap (λ (n : ℕ). number (d.whole ++ d.fraction) * 10 ^ n) (length-replicate (places - length d.fraction) digit_0) in
    omega (arith, all, after, power)

-- ---- the order

not_less : (a b : ℕ) → (a < b → ⊥) → ltb a b ≡ false
not_less a b h = go (ltb a b) refl
  where
    go : (t : Bool) → ltb a b ≡ t → t ≡ false
    go true e = absurd (h (ltb-true a b e))
    go false e = refl

module _ (a b : Decimal) (p : HasDigits a) (q : HasDigits b) (wholes places : ℕ) (whole_a : length a.whole ≤ wholes) (whole_b : length b.whole ≤ wholes)
    (places_are : places ≡ max (length a.fraction) (length b.fraction)) where
  fraction_a : length a.fraction ≤ places
  fraction_a = omega (arith, places_are)

  fraction_b : length b.fraction ≤ places
  fraction_b = omega (arith, places_are)

  less_units : (i : ℕ) (c d : Decimal) → HasDigits c → HasDigits d → length c.whole ≤ wholes → length d.whole ≤ wholes → length c.fraction ≤ places → length d.fraction ≤ places
      → ((k : ℕ) → k < i → get_or (aligned wholes c) k 48 ≡ get_or (aligned wholes d) k 48) → i < wholes + places
      → get_or (aligned wholes c) i 48 < get_or (aligned wholes d) i 48 → in_units places c < in_units places d
  less_units i c d pc pd wc wd fc fd same lt less =
      let mc = places - length c.fraction in
      let md = places - length d.fraction in
      let long_c = padded_length wholes places c wc fc in
      let long_d = padded_length wholes places d wd fd in
      let at : get_or (padded wholes places c) i 48 < get_or (padded wholes places d) i 48 =
      omega (arith, less, get_padded (aligned wholes c) mc i, get_padded (aligned wholes d) md i) in
      let found = less_at i (padded wholes places c) (padded wholes places d) (long_c ∙ sym long_d) (padded_digits wholes places c pc) (padded_digits wholes places d pd)
      (λ k h. get_padded (aligned wholes c) mc k ∙ same k h ∙ sym (get_padded (aligned wholes d) md k)) (omega (arith, lt, long_c)) at in
      omega (arith, found, padded_number wholes places c, padded_number wholes places d)

  abbrev units_less : Bool
  units_less = ltb (in_units places a) (in_units places b)

  spec_is : units_less ≡ is_less a b
  spec_is = ap (λ (n : ℕ). ltb (in_units n a) (in_units n b)) places_are

  pub differ : (i first second : ℕ) → first ≡ get_or (aligned wholes a) i 48 → second ≡ get_or (aligned wholes b) i 48
      → ((k : ℕ) → k < i → get_or (aligned wholes a) k 48 ≡ get_or (aligned wholes b) k 48) → i < wholes + places → first ≢ second → ltb first second ≡ is_less a b
  differ i first second first_is second_is same lt ne = go (ltb first second) refl ∙ spec_is
    where
      go : (t : Bool) → ltb first second ≡ t → ltb first second ≡ units_less
      go true e =
          let less : get_or (aligned wholes a) i 48 < get_or (aligned wholes b) i 48 = omega (arith, ltb-true first second e, first_is, second_is) in
          e ∙ sym (lt-ltb _ _ (less_units i a b p q whole_a whole_b fraction_a fraction_b same lt less))
      go false e =
          let less : get_or (aligned wholes b) i 48 < get_or (aligned wholes a) i 48 = omega (arith, ltb-false first second e, ne, first_is, second_is) in
          let more = less_units i b a q p whole_b whole_a fraction_b fraction_a (λ k h. sym (same k h)) lt less in
          e ∙ sym (not_less _ _ (λ h. omega (arith, h, more)))

  pub agree : ((k : ℕ) → k < wholes + places → get_or (aligned wholes a) k 48 ≡ get_or (aligned wholes b) k 48) → false ≡ is_less a b
  agree same =
      let ma = places - length a.fraction in
      let mb = places - length b.fraction in
      let long_a = padded_length wholes places a whole_a fraction_a in
      let long_b = padded_length wholes places b whole_b fraction_b in
      let lists : padded wholes places a ≡ padded wholes places b =
      ext_get_or 48 (padded wholes places a) (padded wholes places b) (long_a ∙ sym long_b)
      (λ k h. get_padded (aligned wholes a) ma k ∙ same k (omega (arith, h, long_a)) ∙ sym (get_padded (aligned wholes b) mb k)) in
      let units : in_units places a ≡ in_units places b = sym (padded_number wholes places a) ∙ ap number lists ∙ padded_number wholes places b in
      sym (not_less _ _ (λ h. omega (arith, h, units))) ∙ spec_is
