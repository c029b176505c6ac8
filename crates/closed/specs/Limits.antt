-- The limits of an entry.
use Rattle.std.specs.Prelude.{ℕ, ◌<◌, ◌⊎◌, Option, Some, None}
use Rattle.openlist.specs.declared.entry.Rank.{Rank}
use Rattle.closed.specs.declared.message.Parent.{Parent}

-- the greatest number of steps, 2^32 - 1
abbrev pub max_steps : ℕ
max_steps = 4294967295

-- the greatest index of a parent, 2^32 - 1
abbrev pub max_place : ℕ
max_place = 4294967295

-- the greatest number of an operator, 2^32 - 1
abbrev pub max_operator : ℕ
max_operator = 4294967295

-- the greatest number of a worker, 2^8 - 1
abbrev pub max_worker : ℕ
max_worker = 255

-- the parent exceeds the limits of an entry
abbrev pub IsPastParent : Option Parent → Type 0
IsPastParent None = ⊥
IsPastParent (Some p) = (max_place < p.index) ⊎ ((max_operator < p.operator) ⊎ (max_worker < p.worker))

-- the rank or the parent exceeds the limits of an entry
abbrev pub IsPastEntry : Rank → Option Parent → Type 0
IsPastEntry rank parent = (max_steps < rank.steps) ⊎ IsPastParent parent
