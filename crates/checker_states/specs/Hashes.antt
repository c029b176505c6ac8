-- The hash of a state, and what is derived from it: the part of an index that holds the state, the number that
-- determines its home slot there, and a tag.
use Rattle.std.specs.Prelude.{ℕ, ◌+◌, ◌*◌, ◌/◌, ◌%◌, ◌^◌, List, [], ◌∷◌}
use Rattle.slots.specs.Slots.{home_of}

-- the hash with one more value, times a multiplier
unfoldable pub mixed : ℕ → ℕ → ℕ → ℕ
mixed hash multiplier value = (hash + multiplier * value % 2 ^ 64) % 2 ^ 64

-- the hash with these values, each times its multiplier
abbrev pub hash_from : ℕ → List ℕ → List ℕ → ℕ
hash_from hash [] values = hash
hash_from hash (multiplier ∷ multipliers) [] = hash
hash_from hash (multiplier ∷ multipliers) (value ∷ values) = hash_from (mixed hash multiplier value) multipliers values

abbrev pub hash_of : List ℕ → List ℕ → ℕ
hash_of multipliers state = hash_from 0 multipliers state

-- the part of the index, of `parts` parts, that holds the states with this hash
abbrev pub part_of : ℕ → ℕ → ℕ
part_of hash parts = home_of (hash / 2 ^ 32) parts

-- the number that determines the home slot of a state with this hash in its part
unfoldable pub number_of : ℕ → ℕ → ℕ
number_of hash parts = hash / 2 ^ 32 * parts % 2 ^ 32

-- the tag of a state with this hash
unfoldable pub tag_of : ℕ → ℕ
tag_of hash = hash % 2 ^ 16
