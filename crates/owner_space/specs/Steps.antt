-- Steps from a rank.
use Rattle.std.specs.Prelude.{ℕ, ◌+◌, ◌≤◌}
use Rattle.fdr.specs.Tasks.{FiniteDomainTask, cost_of}
use Rattle.openlist.specs.declared.entry.Rank.{Rank}
use Rattle.owner_space.specs.Keyed.{max_total}

-- a step by the operator from this rank results in a cost and a number of operators of at most 2^62
abbrev pub IsSmallStep : FiniteDomainTask → Rank → ℕ → Type 0
IsSmallStep task rank o = (rank.cost + cost_of task o ≤ max_total) × (rank.steps + 1 ≤ max_total)
