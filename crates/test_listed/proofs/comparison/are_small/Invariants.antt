use Rattle.std.proofs.Common.{ℕ, ◌<◌, ◌^◌, slice_index}
use Rattle.test_listed.proofs.comparison.are_small.Given as goal

abbrev pub invariant-loop-operator : goal.invariant-loop-operator
invariant-loop-operator l = (k : ℕ) → k < l.operator → slice_index l.shares k < 2 ^ 31
