use Rattle.std.proofs.Common.{◌≡◌, arith}
use Rattle.std.specs.Vec.{with_items}
use Rattle.std.proofs.lemmas.List.{with_items_is}
use Rattle.fdr.specs.Tasks.{ranges, IsState}
use Rattle.scp_samples.proofs.Successors.{successor_or_same}
use Rattle.scp_samples.proofs.walks.walk_end.Goals as goal

pub loop-preserved : goal.loop-preserved
loop-preserved c =
    let task = c.args.task.now in
    let next = c.apply.new.state in
    let before : IsState (ranges task) c.deref_mut.result.now = rw c.deref_mut.ensures.value c.loop.invariant in
    let after : IsState (ranges task) next = rw c.apply.ensures.state (successor_or_same task c.recall.ensures.task c.deref_mut.result.now c.index-operator.result.now before) in
    let same : (with_items c.loop.state next).items ≡ next = with_items_is c.loop.state next (omega (arith, after.as_long, c.loop.invariant.as_long)) in
    rw same after
