use Rattle.std.proofs.Common.{◌≡◌, ◌+◌, ◌≤◌, length}
use Rattle.cert_text.specs.Reading.{filled_behind}
use Rattle.cert_text.specs.Cursors.{left}
use Rattle.cert_text.proofs.words.Words.filled.Given as goal

abbrev pub invariant-loop-word : goal.invariant-loop-word
invariant-loop-word l = (filled_behind l.count (left l.rest) ≡ filled_behind 0 (left l.self)) × (l.count + length l.rest.rest.now ≤ length l.self.rest.now)

abbrev pub decreases-loop-word : goal.decreases-loop-word
decreases-loop-word l = length (left l.rest)
