-- Successors that are reached at a cost at the bound or past it. Their f-values are, too, so that they are dropped.
use Rattle.std.specs.Prelude.{ℕ, ◌+◌, Bool, ◌&&◌, nat_le}
use Rattle.cost.specs.Distances.{Distance, Finite, is_at_most}
use Rattle.fdr.specs.Tasks.{FiniteDomainTask, cost_of}
use Rattle.openlist.specs.declared.entry.Rank.{Rank}
use Rattle.owner_space.specs.Costs.{least_cost, greatest_cost}
use Rattle.owner_space.specs.Keyed.{max_total}

-- the successor by the operator, of a node of this rank, is reached at a cost at the bound or past it
abbrev pub is_late : FiniteDomainTask → Distance → Rank → ℕ → Bool
is_late task bound rank o = is_at_most bound (Finite (rank.cost + cost_of task o))

-- so is each successor of a node of this rank, and none has a cost or a number of operators above 2^62, by the least
-- and the greatest cost of an operator
abbrev pub all_are_late : FiniteDomainTask → Distance → Rank → Bool
all_are_late task bound rank =
    nat_le (rank.cost + greatest_cost task) max_total
    && (nat_le (rank.steps + 1) max_total && is_at_most bound (Finite (rank.cost + least_cost task)))
