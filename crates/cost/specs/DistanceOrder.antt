-- The order of distances is total, and `distance_cmp` decides it.
use Rattle.std.proofs.Common.{◌≡◌, ℕ, ◌<◌, refl, ap, arith}
use Rattle.std.specs.declared.cmp.Ordering.{Ordering}
use Rattle.std.specs.declared.cmp.Ordering.TheVariants.{Less, Equal, Greater}
use Rattle.std.specs.Ordering.{nat_cmp, MatchOrdering}
use Rattle.std.specs.Cmp.{IsTotalOrder, ranks, strict}
use Rattle.cost.specs.Distances.{Distance, Finite, Infinite, ◌<ᵈ◌, distance_cmp}

-- no distance is below itself
pub not_below_itself : (d : Distance) → ¬ (d <ᵈ d)
not_below_itself (Finite m) h = omega arith
not_below_itself Infinite h = absurd h

pub below_through : (d e f : Distance) → d <ᵈ e → e <ᵈ f → d <ᵈ f
below_through Infinite e f h k = absurd h
below_through (Finite m) Infinite f h k = absurd k
below_through (Finite m) (Finite n) Infinite h k = tt
below_through (Finite m) (Finite n) (Finite o) h k = omega arith

match_finite : (o : Ordering) (m n : ℕ) → MatchOrdering o (m < n) (m ≡ n) (n < m) → MatchOrdering o (Finite m <ᵈ Finite n) (Finite m ≡ Finite n) (Finite n <ᵈ Finite m)
match_finite Less m n h = h
match_finite Equal m n h = ap Finite h
match_finite Greater m n h = h

-- `distance_cmp` decides which of two distances is below the other
pub distance_cmp-ranks : (d e : Distance) → MatchOrdering (distance_cmp d e) (d <ᵈ e) (d ≡ e) (e <ᵈ d)
distance_cmp-ranks (Finite m) (Finite n) = match_finite (nat_cmp m n) m n (ranks m n)
distance_cmp-ranks (Finite m) Infinite = tt
distance_cmp-ranks Infinite (Finite n) = tt
distance_cmp-ranks Infinite Infinite = refl

pub distance_cmp_total : IsTotalOrder distance_cmp
distance_cmp_total = strict ◌<ᵈ◌ not_below_itself below_through distance_cmp distance_cmp-ranks
