-- The limits on texts.
use Rattle.std.specs.Prelude.{ℕ}

-- the greatest number of bytes of a text, 2^24
abbrev pub max_bytes : ℕ
max_bytes = 16777216

-- the greatest number of lists that are open at once
abbrev pub max_levels : ℕ
max_levels = 200
