use Rattle.std.proofs.Common.{◌≡◌, ◌<◌, ◌^◌, ℕ, length}
use Rattle.std.specs.Prelude.{slice_index}
use Rattle.scp_samples.proofs.pool.costs_of.Given as goal

abbrev pub invariant-loop-operator : goal.invariant-loop-operator
invariant-loop-operator l =
    (length l.costs.items ≡ l.operator)
    × ((o : ℕ) → slice_index l.costs.items o < 2 ^ 31)
