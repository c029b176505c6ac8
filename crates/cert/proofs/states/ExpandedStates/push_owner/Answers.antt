use Rattle.std.proofs.Common.{◌<◌, length, arith, ◌∙◌}
use Rattle.cert.specs.Expanded.{listed}
use Rattle.cert.proofs.ExpandedLists.{none_added, one_added}
use Rattle.cert.proofs.states.ExpandedStates.push_owner.Goals as goal
use Rattle.cert.proofs.states.ExpandedStates.push_owner.Goals.{then-entry+in_ok-push+in_ok-extend_from_slice, else-entry}

pub loop-index-preserved : goal.loop-index-preserved
loop-index-preserved g c =
    let width = length c.args.state.now in
    let nodes = c.args.owner.now.nodes in
    let before = listed (length c.args.state.now) c.args.self.now in
    let low : c.loop-index.index < length c.args.owner.now.nodes = omega (arith, c.loop-index-test.true, c.len-index-end.ensures) in
    elim c.if-entry.branch [
      | then-entry+in_ok-push+in_ok-extend_from_slice w ↦
          rw (w.self-is, w.in_ok-push.ensures.items, w.in_ok-extend_from_slice.ensures.items)
          (one_added width nodes before c.loop-index.index c.loop-index.self.costs.items c.loop-index.self.values.items c.entry-entry.result c.loop-index.invariant low
          c.entry-entry.ensures w.if-entry.true w.copy_state.new.state (w.copy_state.auto.state ∙ c.loop-index.auto.state) w.copy_state.ensures)
      | else-entry w ↦
          rw w.self-is
          (none_added width nodes before c.loop-index.index c.loop-index.self.costs.items c.loop-index.self.values.items c.entry-entry.result c.loop-index.invariant low
          c.entry-entry.ensures w.if-entry.false)
    ]
