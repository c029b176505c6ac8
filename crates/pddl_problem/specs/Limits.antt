-- The limit on the initial state.
use Rattle.std.specs.Prelude.{ℕ}

-- the greatest number of items of the section
abbrev pub max_items : ℕ
max_items = 1000000
