use Rattle.fdr.specs.Tasks.{ranges}
use Rattle.abstraction.proofs.PatternLaws.{too_large, ranges_positive}
use Rattle.abstraction.proofs.projection.digits_of.Goals as goal

pub returns-then-range-size-clause-fault : goal.returns-then-range-size-clause-fault
returns-then-range-size-clause-fault c = (
  c.requires.exist,
  too_large (ranges c.args.task.now) c.args.pattern.now c.loop-place.place c.loop-place.size c.range-range.result
      (ranges_positive c.args.task.now c.args.pattern.now c.requires.task c.requires.exist) c.loop-place-test.true
      c.loop-place.invariant.some c.loop-place.invariant.size c.range-range.ensures c.if-range-size.true,
)
