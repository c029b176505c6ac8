use Rattle.std.specs.Prelude.{slice_index}
use Rattle.pddl_domain.proofs.TypeSteps.{mapped_more}
use Rattle.pddl_domain.proofs.cycles.doubled.Goals as goal

pub loop-ancestor-preserved : goal.loop-ancestor-preserved
loop-ancestor-preserved c =
    let above = c.args.ancestors.now in
    mapped_more (slice_index above) above c.loop-ancestor.ancestor-index 0 c.loop-ancestor.twice.items c.push.new.self.items c.loop-ancestor-test.true c.loop-ancestor.invariant
    c.in_ok-push.ensures.items
