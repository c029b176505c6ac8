-- What is left of a bound.
use Rattle.std.proofs.Common.{◌≡◌, ℕ, zero, suc, ◌+◌, ◌-◌, true, false, sym, ◌||◌, Option, Some, None, refl, arith, leb, eqb, true≢false}
use Rattle.std.specs.Option.{option_eq}
use Rattle.std.proofs.lemmas.Bool.{lt-leb, le-leb, eqb-true}
use Rattle.cost.specs.Distances.{Distance, Finite, Infinite, ◌+ᵈ◌, is_at_most, larger, distance_of}
use Rattle.checker_tables.specs.Rests.{rest_of}

-- a sum reaches the bound where its second part reaches what the first leaves
numbers : (b m n : ℕ) → leb b (m + n) ≡ leb (b - m) n
numbers b m n = grind (arith)

pub sum_reaches : (b d e : Distance) → is_at_most b (d +ᵈ e) ≡ is_at_most (rest_of b d) e
sum_reaches b Infinite Infinite = refl
sum_reaches b Infinite (Finite n) = grind arith
sum_reaches b (Finite m) Infinite = refl
sum_reaches Infinite (Finite m) (Finite n) = refl
sum_reaches (Finite k) (Finite m) (Finite n) = numbers k m n

-- the larger of two reaches the bound where one of them does
pub larger_reaches : (b d e : Distance) → is_at_most b (larger d e) ≡ (is_at_most b d || is_at_most b e)
larger_reaches b Infinite e = refl
larger_reaches b (Finite m) Infinite = grind arith
larger_reaches Infinite (Finite m) (Finite n) = refl
larger_reaches (Finite k) (Finite m) (Finite n) = grind arith

-- where something is left of the bound, 0 does not reach it
pub something_left : (r : Option ℕ) → option_eq eqb r (Some 0) ≡ false → is_at_most (distance_of r) (Finite 0) ≡ false
something_left None ne = refl
something_left (Some zero) ne = absurd (true≢false ne)
something_left (Some (suc n)) ne = lt-leb (suc n) 0 (omega arith)

-- where nothing is left of the bound, it is reached
pub nothing_left : (r : Option ℕ) → option_eq eqb r (Some 0) ≡ true → (d : Distance) → is_at_most (distance_of r) d ≡ true
nothing_left None e d = absurd (true≢false (sym e))
nothing_left (Some zero) e Infinite = refl
nothing_left (Some zero) e (Finite n) = le-leb 0 n (omega arith)
nothing_left (Some (suc n)) e d = absurd (let same : suc n ≡ 0 = eqb-true (suc n) 0 e in omega arith)
