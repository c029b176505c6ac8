use Rattle.std.proofs.Common.{◌∙◌}
use Rattle.reduction.proofs.ClosingLaws.{grows_more}
use Rattle.reduction.proofs.ClosingSteps.{keeps_more, marked_more, marked_all}
use Rattle.reduction.proofs.closing.Closing.mark_all.Goals as goal

pub loop-operator-preserved : goal.loop-operator-preserved
loop-operator-preserved c =
    let old = c.args.self.now in
    let loop = c.loop-operator.self in
    let new = c.mark.new.self in
    record {
      closing = c.in_ok-mark.ensures.closing;
      grows = grows_more old.asked loop.asked new.asked old.pending.items loop.pending.items new.pending.items c.loop-operator.invariant.grows c.in_ok-mark.ensures.grows;
      marks = keeps_more old.changing.items loop.changing.items new.changing.items c.loop-operator.invariant.marks c.in_ok-mark.ensures.marks;
      marked = marked_more loop.changing.items new.changing.items c.args.operators.now c.loop-operator.operator-index 0 c.loop-operator-test.true c.loop-operator.invariant.marked c.in_ok-mark.ensures.marks c.in_ok-mark.ensures.marked;
      visited = c.in_ok-mark.ensures.visited ∙ c.loop-operator.invariant.visited;
    }

pub returns-clause-marked : goal.returns-clause-marked
returns-clause-marked c = marked_all c.loop-operator.self.changing.items c.args.operators.now c.loop-operator.operator-index c.loop-operator-test.false c.loop-operator.invariant.marked
