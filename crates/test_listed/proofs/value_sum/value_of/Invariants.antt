use Rattle.std.proofs.Common.{◌≡◌, drop}
use Rattle.abstraction.specs.Projections.{value_after}
use Rattle.test_listed.specs.ValueSums.{value_of}
use Rattle.test_listed.proofs.value_sum.value_of.Given as goal

abbrev pub invariant-loop-fact : goal.invariant-loop-fact
invariant-loop-fact l = value_after (drop l.fact-index l.facts) l.variable l.value ≡ value_of l.facts l.variable
