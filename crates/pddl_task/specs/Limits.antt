-- The limit on costs.
use Rattle.std.specs.Prelude.{ℕ}

-- the greatest cost of an action, 2^31 - 1
abbrev pub max_cost : ℕ
max_cost = 2147483647
