use Rattle.std.proofs.Common.{◌≡◌, ◌/◌, drop, fold}
use Rattle.std.specs.Prelude.{slice_index}
use Rattle.fdr.specs.Tasks.{ranges}
use Rattle.packed_spread.specs.Projections as spec
use Rattle.packed_spread.proofs.projection.frequency.Given as goal

abbrev pub invariant-loop-fact : goal.invariant-loop-fact
invariant-loop-fact l =
    fold (λ states f. states / slice_index (ranges l.task) f.variable) l.states (drop l.fact-index l.operator.precondition) ≡ spec.frequency (ranges l.task) l.operator
