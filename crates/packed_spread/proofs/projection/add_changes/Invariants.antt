use Rattle.std.proofs.Common.{◌≡◌, drop, length}
use Rattle.packed_spread.specs.Projections as spec
use Rattle.packed_spread.proofs.projection.add_changes.Given as goal

abbrev pub invariant-loop-fact : goal.invariant-loop-fact
invariant-loop-fact l =
    record {
      value : spec.with_changes l.fn.states l.changes (drop l.fact-index l.facts) ≡ spec.with_changes l.fn.states l.fn.changes l.facts;
      long : length l.changes ≡ length l.fn.changes;
    }
