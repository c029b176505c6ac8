-- The limits on finite-domain tasks.
use Rattle.std.specs.Prelude.{ℕ}

-- the greatest number of variables
abbrev pub max_variables : ℕ
max_variables = 65536

-- the greatest number of values of a variable
abbrev pub max_values : ℕ
max_values = 65536

-- the greatest number of operators, 2^32 - 1
abbrev pub max_operators : ℕ
max_operators = 4294967295
