-- The limits on the parts common to both texts.
use Rattle.std.specs.Prelude.{ℕ}

-- the greatest number, 2^31 - 1
abbrev pub max_number : ℕ
max_number = 2147483647

-- the greatest number of arguments of a predicate, a function or a schema
abbrev pub max_arguments : ℕ
max_arguments = 16
