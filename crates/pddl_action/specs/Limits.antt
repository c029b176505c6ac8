-- The limits on actions.
use Rattle.std.specs.Prelude.{ℕ}

-- the greatest number of schemas
abbrev pub max_schemas : ℕ
max_schemas = 512

-- the greatest number of literals of a schema
abbrev pub max_literals : ℕ
max_literals = 256

-- the greatest number of increases of a schema
abbrev pub max_increases : ℕ
max_increases = 16
