use Rattle.std.proofs.Common.{◌≡◌, ◌++◌, Ok, map}
use Rattle.checker_states.proofs.index.all_made.Given as goal

abbrev pub invariant-loop-part : goal.invariant-loop-part
invariant-loop-part l = map Ok l.parts.items ++ l.part-iterator.rest.items ≡ l.fn.made.items
