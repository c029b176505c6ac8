use Rattle.std.proofs.Common.{◌≡◌, filter}
use Rattle.std.specs.List.{range_with_len}
use Rattle.reduction.specs.Closing.{is_marked}
use Rattle.reduction.proofs.InOrder.{AreListed}
use Rattle.reduction.proofs.retained.in_order.Given as goal

abbrev pub invariant-loop-number : goal.invariant-loop-number
invariant-loop-number l = AreListed l.count l.number-index l.numbers l.is_listed.items

abbrev pub invariant-loop-candidate : goal.invariant-loop-candidate
invariant-loop-candidate l = l.ordered.items ≡ filter (is_marked l.is_listed.items) (range_with_len 0 l.candidate)
