-- How many bits the values below a range take.
use Rattle.std.proofs.Common.{◌≡◌, ℕ, zero, suc, ◌+◌, ◌-◌, ◌*◌, ◌/◌, ◌^◌, ◌<◌, ◌≤◌, refl, ap, arith}
use Rattle.std.proofs.Math.Logic.{⊎_elim}
use Rattle.std.proofs.Math.Nat.{pow-suc, pow-le-pow_right}
use Rattle.std.proofs.lemmas.Nat.{pow_pos, pow-add}
use Rattle.std.proofs.lemmas.Bool.{cases_lt}
use Rattle.std.specs.Int.Count.{count_leading_zeros, leading_unique}
use Rattle.packed.specs.Fields.{digits_up_to, width_of}

double_power : (k : ℕ) → 2 ^ (k + 1) ≡ 2 * 2 ^ k
double_power k = omega (arith, pow-add 2 k 1)

-- a number below 2 ^ limit is below 2 ^ the number of its digits
digits_enough : (limit n : ℕ) → n < 2 ^ limit → n < 2 ^ digits_up_to limit n
digits_enough zero n below = below
digits_enough (suc limit) zero below = omega arith
digits_enough (suc limit) (suc n) below =
    let half : suc n / 2 < 2 ^ limit = omega (arith, pow-suc 2 limit) in
    rw (double_power (digits_up_to limit (suc n / 2))) (omega (arith, digits_enough limit (suc n / 2) half))

-- and fewer digits would not do
digits_no_more : (limit n : ℕ) → 0 < n → 2 ^ digits_up_to limit n ≤ 2 * n
digits_no_more zero n positive = omega arith
digits_no_more (suc limit) zero positive = omega arith
digits_no_more (suc limit) (suc n) positive =
    ⊎_elim
    (λ small. let one : n ≡ 0 = omega arith in rw one (digits_of_one limit))
    (λ large. rw (double_power (digits_up_to limit (suc n / 2))) (omega (arith, digits_no_more limit (suc n / 2) (omega arith))))
    (cases_lt n 1)
  where
    digits_of_zero : (limit : ℕ) → digits_up_to limit 0 ≡ 0
    digits_of_zero zero = refl
    digits_of_zero (suc limit) = refl

    digits_of_one : (limit : ℕ) → 2 ^ digits_up_to (suc limit) 1 ≤ 2 * 1
    digits_of_one limit = rw (digits_of_zero limit) (omega arith)

below_own_power : (n : ℕ) → n < 2 ^ n
below_own_power zero = omega arith
below_own_power (suc n) = omega (arith, below_own_power n, pow-suc 2 n, pow_pos n)

pub width_enough : (range : ℕ) → range ≤ 2 ^ width_of range
width_enough range = omega (arith, digits_enough (range - 1) (range - 1) (below_own_power (range - 1)))

pub width_no_more : (range : ℕ) → 1 < range → 2 ^ width_of range < 2 * range
width_no_more range many = omega (arith, digits_no_more (range - 1) (range - 1) (omega arith))

-- a range up to 2 ^ k takes at most k bits
pub width_le : (range k : ℕ) → range ≤ 2 ^ k → width_of range ≤ k
width_le range k bounded =
    ⊎_elim
    (λ wide. absurd (⊎_elim
    (λ many. omega (arith, width_no_more range many, pow-le-pow_right {n = 2} (omega arith) {i = suc k} {j = width_of range} wide, pow-suc 2 k))
    (λ few. omega (arith, narrow few))
    (cases_lt 1 range)))
    (λ narrow. narrow)
    (cases_lt k (width_of range))
  where
    narrow : range ≤ 1 → width_of range ≡ 0
    narrow few = let none : range - 1 ≡ 0 = omega arith in ap (λ n. digits_up_to n n) none

-- the digits of a number of 64 bits are those that are no leading zeros
pub width_from_zeros : (range : ℕ) → range ≤ 2 ^ 64 → 64 - count_leading_zeros 64 (range - 1) ≡ width_of range
width_from_zeros range bounded =
    let narrow = width_le range 64 bounded in
    omega (
      arith,
      narrow,
      leading_unique 64 (range - 1) (64 - width_of range) (width_of range) (omega (arith, narrow))
          (digits_enough (range - 1) (range - 1) (below_own_power (range - 1))) no_more,
    )
  where
    no_more : 2 ^ width_of range ≤ 2 * (range - 1) + 1
    no_more =
        ⊎_elim
        (λ many. omega (arith, digits_no_more (range - 1) (range - 1) (omega arith)))
        (λ few. let none : range - 1 ≡ 0 = omega arith in omega (arith, ap (λ n. 2 ^ digits_up_to n n) none))
        (cases_lt 1 range)
