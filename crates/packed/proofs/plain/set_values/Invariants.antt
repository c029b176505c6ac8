use Rattle.std.proofs.Common.{◌≡◌, drop, length}
use Rattle.fdr.specs.Tasks.{with_values}
use Rattle.packed.proofs.plain.set_values.Given as goal

abbrev pub invariant-loop-fact : goal.invariant-loop-fact
invariant-loop-fact l =
    (with_values (drop l.fact-index l.facts) l.state ≡ with_values l.facts l.fn.state) × (length l.state ≡ length l.fn.state)
