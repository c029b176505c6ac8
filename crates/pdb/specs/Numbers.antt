-- Distances as numbers in memory.
use Rattle.std.specs.Prelude.{ℕ, List, map}
use Rattle.cost.specs.Distances.{Distance}
use Rattle.cert_value.specs.Kept.{kept_distance}
use Rattle.pdb_walks.specs.Walks.{value_in}
use Rattle.pdb.specs.declared.scratch.Scratch.{Scratch}

-- the distance of an abstract state by a list of numbers
abbrev pub distance_in : List ℕ → ℕ → Distance
distance_in numbers state = value_in (map kept_distance numbers) state

-- the distances that the last search left in memory
abbrev pub distances_in : Scratch → List Distance
distances_in scratch = map kept_distance scratch.values.items
