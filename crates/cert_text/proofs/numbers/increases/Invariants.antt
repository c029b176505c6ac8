use Rattle.std.proofs.Common.{◌≡◌, drop}
use Rattle.cert_text.specs.Reading.{increases_from}
use Rattle.cert_text.proofs.numbers.increases.Given as goal

abbrev pub invariant-loop-number : goal.invariant-loop-number
invariant-loop-number l = increases_from l.least (drop l.number-index l.numbers) ≡ increases_from 0 l.numbers
