use Rattle.std.proofs.Common.{◌≡◌, [], length}
use Rattle.cert_text.specs.Reading.{numbers_behind}
use Rattle.cert_text.specs.Cursors.{left}
use Rattle.cert_text.proofs.numbers.read_numbers.Given as goal

abbrev pub invariant-loop-word : goal.invariant-loop-word
invariant-loop-word l = numbers_behind l.end l.numbers.items (left l.rest) ≡ numbers_behind l.end [] (left l.words)

abbrev pub decreases-loop-word : goal.decreases-loop-word
decreases-loop-word l = length (left l.rest)
