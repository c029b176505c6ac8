use Rattle.std.proofs.Common.{◌≡◌, ◌+◌, ◌^◌, [], length}
use Rattle.cert_text.specs.Reading.{filled_behind, numbers_behind}
use Rattle.cert_text.specs.Cursors.{left}
use Rattle.cert_text.proofs.parts.plain_entry.Given as goal

abbrev pub invariant-loop-value : goal.invariant-loop-value
invariant-loop-value l = (filled_behind (length l.state.items + 1) (left l.rest) ≡ filled_behind 1 (left l.initial.rest)) × (numbers_behind (2 ^ 32) l.state.items (left l.rest) ≡ numbers_behind (2 ^ 32) [] (left l.initial.rest))

abbrev pub decreases-loop-value : goal.decreases-loop-value
decreases-loop-value l = length (left l.rest)
