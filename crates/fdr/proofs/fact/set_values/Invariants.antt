use Rattle.std.proofs.Common.{◌≡◌, drop, length}
use Rattle.fdr.specs.Tasks as spec
use Rattle.fdr.proofs.fact.set_values.Given as goal

abbrev pub invariant-loop-fact : goal.invariant-loop-fact
invariant-loop-fact l =
    (spec.with_values (drop l.fact-index l.facts) l.state ≡ spec.with_values l.facts l.fn.state) × (length l.state ≡ length l.fn.state)
