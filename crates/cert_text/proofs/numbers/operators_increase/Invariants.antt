use Rattle.std.proofs.Common.{◌≡◌, drop, map}
use Rattle.cert_text.specs.Reading.{increases_from}
use Rattle.cert_text.proofs.numbers.operators_increase.Given as goal

abbrev pub invariant-loop-share : goal.invariant-loop-share
invariant-loop-share l = increases_from l.least (map (λ s. s.operator) (drop l.share-index l.shares)) ≡ increases_from 0 (map (λ s. s.operator) l.shares)
