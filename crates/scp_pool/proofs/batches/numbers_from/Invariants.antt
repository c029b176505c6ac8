use Rattle.std.proofs.Common.{◌≡◌, ◌+◌, length}
use Rattle.scp_pool.proofs.batches.numbers_from.Given as goal

abbrev pub invariant-loop-number : goal.invariant-loop-number
invariant-loop-number l = length l.numbers.items + l.first ≡ l.number
