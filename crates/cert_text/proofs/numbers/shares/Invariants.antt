use Rattle.std.proofs.Common.{◌≡◌, [], length}
use Rattle.cert_text.specs.Reading.{shares_behind}
use Rattle.cert_text.specs.Cursors.{left}
use Rattle.cert_text.proofs.numbers.shares.Given as goal

abbrev pub invariant-loop-operator : goal.invariant-loop-operator
invariant-loop-operator l = shares_behind l.shares.items (left l.rest) ≡ shares_behind [] (left l.words)

abbrev pub decreases-loop-operator : goal.decreases-loop-operator
decreases-loop-operator l = length (left l.rest)
