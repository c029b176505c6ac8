-- Shifts that stay within a word of 64 bits.
use Rattle.std.proofs.Common.{◌≡◌, ℕ, ◌+◌, ◌-◌, ◌*◌, ◌/◌, ◌%◌, ◌^◌, ◌<◌, ◌≤◌, bit_and, sym, ap, ◌∙◌, arith}
use Rattle.std.proofs.Math.Logic.{⊎_elim}
use Rattle.std.proofs.Math.Nat.{mod-eq_of_lt, mod-one, zero-mul, mul-sub, mul_comm, pow-le-pow_right}
use Rattle.std.proofs.lemmas.Nat.{and_mask, one_shl, pow_pos, pow-add, shl_below}
use Rattle.std.proofs.lemmas.Bool.{cases_lt}

-- what `value.wrapping_shl(shift)` gives where the value fits in what is left of a word
pub shifted_up : (value shift : ℕ) → shift ≤ 64 → value * 2 ^ shift < 2 ^ 64 → (value * 2 ^ (shift % 64)) % 2 ^ 64 ≡ value * 2 ^ shift
shifted_up value shift in_word fits =
    ⊎_elim
    (λ (below : shift < 64).
    ap (λ s. (value * 2 ^ s) % 2 ^ 64) (mod-eq_of_lt below) ∙ mod-eq_of_lt fits)
    (λ (whole : 64 ≤ shift).
    let e : shift ≡ 64 = omega arith in
    let none : value ≡ 0 = omega (arith, ap (λ s. value * 2 ^ s) e) in
    ap (λ v. (v * 2 ^ (shift % 64)) % 2 ^ 64) none ∙ ap (λ n. n % 2 ^ 64) (zero-mul (2 ^ (shift % 64)))
    ∙ sym (ap (λ v. v * 2 ^ shift) none ∙ zero-mul (2 ^ shift)))
    (cases_lt shift 64)

-- what `word.wrapping_shr(shift) & ((1 << width) - 1)` gives
pub shifted_down : (word shift width : ℕ) → shift + width ≤ 64 → width < 64
    → bit_and (word / 2 ^ (shift % 64)) ((1 * 2 ^ width) % 2 ^ 64 - 1) ≡ word / 2 ^ shift % 2 ^ width
shifted_down word shift width in_word narrow =
    ap (λ m. bit_and (word / 2 ^ (shift % 64)) (m - 1)) (one_shl width 64 narrow)
    ∙ and_mask (word / 2 ^ (shift % 64)) width
    ∙ ⊎_elim
    (λ (below : shift < 64). ap (λ s. word / 2 ^ s % 2 ^ width) (mod-eq_of_lt below))
    (λ (whole : 64 ≤ shift).
    let e : width ≡ 0 = omega arith in
    ap (λ w. word / 2 ^ (shift % 64) % 2 ^ w) e ∙ mod-one (word / 2 ^ (shift % 64))
    ∙ sym (ap (λ w. word / 2 ^ shift % 2 ^ w) e ∙ mod-one (word / 2 ^ shift)))
    (cases_lt shift 64)

-- what `((1 << width) - 1).wrapping_shl(shift)` gives: the bits of a field
pub field_bits : (shift width : ℕ) → shift + width ≤ 64 → width ≤ 16 → (((1 * 2 ^ width) % 2 ^ 64 - 1) * 2 ^ (shift % 64)) % 2 ^ 64 ≡ 2 ^ (width + shift) - 2 ^ shift
field_bits shift width in_word narrow =
    let spread : (2 ^ width - 1) * 2 ^ shift ≡ 2 ^ (width + shift) - 2 ^ shift =
    mul_comm (2 ^ width - 1) (2 ^ shift) ∙ mul-sub (2 ^ shift) (2 ^ width) 1 ∙ omega (arith, pow-add 2 width shift, mul_comm (2 ^ shift) (2 ^ width)) in
    let low = pow-le-pow_right {n = 2} (omega arith) {i = width + shift} {j = 64} (omega arith) in
    ap (λ n. ((n - 1) * 2 ^ (shift % 64)) % 2 ^ 64) (one_shl width 64 (omega arith))
    ∙ shifted_up (2 ^ width - 1) shift (omega arith) (omega (arith, spread, low, pow_pos shift))
    ∙ spread

-- what `value.wrapping_shl(shift)` gives of a value that has no more bits than the field
pub value_placed : (value shift width : ℕ) → shift + width ≤ 64 → value < 2 ^ width → (value * 2 ^ (shift % 64)) % 2 ^ 64 ≡ value * 2 ^ shift
value_placed value shift width in_word below =
    let low = pow-le-pow_right {n = 2} (omega arith) {i = width + shift} {j = 64} (omega arith) in
    shifted_up value shift (omega arith) (omega (arith, shl_below value width shift below, low))
