-- The representation of distances and states in memory.
use Rattle.std.specs.Prelude.{ℕ, ◌^◌, nat_le, if◌then◌else◌, List, [], ◌∷◌, take, drop}
use Rattle.cost.specs.Distances.{Distance, Finite, Infinite}
use Rattle.cert_value.specs.declared.numbers.Kept.{Kept}
use Rattle.cert_value.specs.declared.numbers.Kept.TheVariants.{Short, Long}
use Rattle.cert_value.specs.Certificates.{Entry}

-- a number that is no distance represents the infinite one
abbrev pub kept_distance : ℕ → Distance
kept_distance n = if nat_le n (2 ^ 63) then Finite n else Infinite

-- each cost with the next `width` of the values
abbrev pub entries : ℕ → List ℕ → List ℕ → List Entry
entries width [] values = []
entries width (cost ∷ costs) values = record { cost = cost; state = take width values } ∷ entries width costs (drop width values)

-- the numbers, whatever their width in memory
abbrev pub numbers_in : Kept → List ℕ
numbers_in (Short numbers) = numbers.items
numbers_in (Long numbers) = numbers.items
