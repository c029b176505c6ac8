use Rattle.std.proofs.Common.{ℕ, ◌^◌, ◌<◌, slice_index}
use Rattle.test_walks.proofs.comparison.are_small.Given as goal

abbrev pub invariant-loop-operator : goal.invariant-loop-operator
invariant-loop-operator l = (o : ℕ) → o < l.operator → slice_index l.shares o < 2 ^ 31
