-- Bounds as a certificate states them.
use Rattle.std.proofs.Common.{ℕ, ◌≤◌, ◌^◌, arith}
use Rattle.std.proofs.lemmas.Grind.{common_steps}
use Rattle.cost.specs.Distances.{Distance, Finite, Infinite, ◌≤ᵈ◌, IsWithin}
use Rattle.owner.specs.Owned.{max_total}
use Rattle.extract.specs.Bounds.{stated}

pub stated_at_most : (d : Distance) → stated d ≤ᵈ d
stated_at_most (Finite n) = grind (arith, common_steps)
stated_at_most Infinite = tt

pub stated_within : (d : Distance) → IsWithin (2 ^ 62) (stated d)
stated_within (Finite n) = grind (arith, common_steps)
stated_within Infinite = tt

-- a small bound is stated as it is
pub small_stated : (b : ℕ) → b ≤ max_total → Finite b ≤ᵈ stated (Finite b)
small_stated b small = grind (arith, common_steps, small)
