-- Masks of bits: one field of a word, and masks one after the other.
use Rattle.std.proofs.Common.{◌≡◌, ℕ, ◌+◌, ◌-◌, ◌*◌, ◌/◌, ◌%◌, ◌^◌, ◌<◌, ◌≤◌, bit_and, bit_or, Bool, ◌&&◌, true, eqb, eqb-true, eq-eqb, sym, ap, ◌∙◌, arith}
use Rattle.std.proofs.Math.Nat.{mod-eq_of_lt, pow-le-pow_right}
use Rattle.std.proofs.lemmas.Bool.{and_parts, and_from}
use Rattle.std.proofs.lemmas.Nat.{pow_pos, shl-shr, shl_below, and_le_r, and_comm, or_comm, and_assoc, and-not, and_or_self, or_disjoint}
use Rattle.std.proofs.lemmas.Nat.Bits.{and_high, bit_at_and, bit_at_or, same_from_bits}

-- ---- the bits of one field

and_zero : (a : ℕ) → bit_and a 0 ≡ 0
and_zero a = omega (arith, and_le_r a 0)

module _ (word shift width value : ℕ) (fits : word < 2 ^ 64) (in_word : shift + width ≤ 64) (narrow : value < 2 ^ width) where
  abbrev field : ℕ
  field = 2 ^ (width + shift) - 2 ^ shift

  abbrev others : ℕ
  others = 2 ^ 64 - 1 - field

  whole : 2 ^ (width + shift) ≤ 2 ^ 64
  whole = pow-le-pow_right {n = 2} (omega arith) {i = width + shift} {j = 64} (omega arith)

  low : field < 2 ^ 64
  low = omega (arith, whole, pow_pos shift)

  placed_low : value * 2 ^ shift < 2 ^ 64
  placed_low = omega (arith, whole, shl_below value width shift narrow)

  -- the rest of the word
  rest : bit_and word others + word / 2 ^ shift % 2 ^ width * 2 ^ shift ≡ word
  rest = omega (arith, and-not 64 field word low fits, and_comm field word, and_comm word others, and_high word width shift)

  -- the value has no bit outside of the field
  apart : bit_and others (value * 2 ^ shift) ≡ 0
  apart =
      let inside : bit_and field (value * 2 ^ shift) ≡ value * 2 ^ shift =
      and_comm field (value * 2 ^ shift) ∙ and_high (value * 2 ^ shift) width shift
      ∙ ap (λ x. x % 2 ^ width * 2 ^ shift) (shl-shr value shift) ∙ ap (λ x. x * 2 ^ shift) (mod-eq_of_lt narrow) in
      omega (arith, and-not 64 field (value * 2 ^ shift) low placed_low, inside)

  -- the value takes the place of the field's number
  pub field_written : bit_or (bit_and word others) (value * 2 ^ shift) + word / 2 ^ shift % 2 ^ width * 2 ^ shift ≡ word + value * 2 ^ shift
  field_written =
      let none : bit_and (bit_and word others) (value * 2 ^ shift) ≡ 0 =
      and_assoc (value * 2 ^ shift) word others ∙ ap (bit_and word) apart ∙ and_zero word in
      omega (arith, or_disjoint (bit_and word others) (value * 2 ^ shift) none, rest)

-- ---- masks one after the other

and_or_spread : (a b c : ℕ) → bit_and (bit_or a b) c ≡ bit_or (bit_and a c) (bit_and b c)
and_or_spread a b c =
    same_from_bits (bit_and (bit_or a b) c) (bit_or (bit_and a c) (bit_and b c))
    (λ i. omega (arith, bit_at_and (bit_or a b) c i, bit_at_or a b i, bit_at_or (bit_and a c) (bit_and b c) i, bit_at_and a c i, bit_at_and b c i))

or_regroup : (a b c : ℕ) → bit_or a (bit_or b c) ≡ bit_or (bit_or a b) c
or_regroup a b c =
    same_from_bits (bit_or a (bit_or b c)) (bit_or (bit_or a b) c)
    (λ i. omega (arith, bit_at_or a (bit_or b c) i, bit_at_or b c i, bit_at_or (bit_or a b) c i, bit_at_or a b i))

pub two_masks : (word keep set keep' set' : ℕ)
    → bit_or (bit_and word (bit_and keep keep')) (bit_or (bit_and set keep') set') ≡ bit_or (bit_and (bit_or (bit_and word keep) set) keep') set'
two_masks word keep set keep' set' =
    or_regroup (bit_and word (bit_and keep keep')) (bit_and set keep') set'
    ∙ ap (λ x. bit_or (bit_or x (bit_and set keep')) set') (sym (and_assoc keep' word keep))
    ∙ ap (λ x. bit_or x set') (sym (and_or_spread (bit_and word keep) set keep'))

-- ---- two tests of one word

and_both : (word mask mask' : ℕ) → bit_and word (bit_or mask mask') ≡ bit_or (bit_and word mask) (bit_and word mask')
and_both word mask mask' =
    and_comm word (bit_or mask mask') ∙ and_or_spread mask mask' word
    ∙ ap (λ x. bit_or x (bit_and mask' word)) (and_comm mask word) ∙ ap (bit_or (bit_and word mask)) (and_comm mask' word)

-- the bits of a part of a mask
first_part : (word mask mask' : ℕ) → bit_and (bit_and word (bit_or mask mask')) mask ≡ bit_and word mask
first_part word mask mask' =
    and_assoc mask word (bit_or mask mask')
    ∙ ap (bit_and word) (ap (λ x. bit_and x mask) (or_comm mask mask') ∙ and_or_self mask mask')

second_part : (word mask mask' : ℕ) → bit_and (bit_and word (bit_or mask mask')) mask' ≡ bit_and word mask'
second_part word mask mask' = and_assoc mask' word (bit_or mask mask') ∙ ap (bit_and word) (and_or_self mask' mask)

same_tests : (a b : Bool) → (a ≡ true → b ≡ true) → (b ≡ true → a ≡ true) → a ≡ b
same_tests a b there back = grind (arith)

pub two_tests : (word mask value mask' value' : ℕ) → bit_and (bit_or value value') mask ≡ value → bit_and (bit_or value value') mask' ≡ value'
    → eqb (bit_and word (bit_or mask mask')) (bit_or value value') ≡ (eqb (bit_and word mask) value && eqb (bit_and word mask') value')
two_tests word mask value mask' value' agrees agrees' =
    same_tests (eqb (bit_and word (bit_or mask mask')) (bit_or value value')) (eqb (bit_and word mask) value && eqb (bit_and word mask') value')
    (λ passes.
    let is = eqb-true (bit_and word (bit_or mask mask')) (bit_or value value') passes in
    and_from (eqb (bit_and word mask) value) (eqb (bit_and word mask') value')
    (eq-eqb (bit_and word mask) value (sym (first_part word mask mask') ∙ ap (λ x. bit_and x mask) is ∙ agrees))
    (eq-eqb (bit_and word mask') value' (sym (second_part word mask mask') ∙ ap (λ x. bit_and x mask') is ∙ agrees')))
    (λ both.
    let parts = and_parts (eqb (bit_and word mask) value) (eqb (bit_and word mask') value') both in
    eq-eqb (bit_and word (bit_or mask mask')) (bit_or value value')
    (and_both word mask mask'
    ∙ ap (λ x. bit_or x (bit_and word mask')) (eqb-true (bit_and word mask) value parts.0)
    ∙ ap (bit_or value) (eqb-true (bit_and word mask') value' parts.1)))
