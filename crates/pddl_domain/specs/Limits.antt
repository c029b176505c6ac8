-- The limits on the sections of a domain.
use Rattle.std.specs.Prelude.{ℕ}

-- the greatest number of predicates, and of functions
abbrev pub max_heads : ℕ
max_heads = 512

-- the greatest number of objects, counting constants and those of the problem together
abbrev pub max_objects : ℕ
max_objects = 4096
