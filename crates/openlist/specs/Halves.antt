-- The halves of an index, of 32 bits each.
use Rattle.std.specs.Prelude.{ℕ, ◌+◌, ◌*◌, ◌/◌, ◌%◌, ◌^◌}

abbrev pub upper_of : ℕ → ℕ
upper_of index = index / 2 ^ 32

abbrev pub lower_of : ℕ → ℕ
lower_of index = index % 2 ^ 32

-- the index with these halves
abbrev pub joined_of : ℕ → ℕ → ℕ
joined_of upper lower = upper * 2 ^ 32 + lower
