use Rattle.std.proofs.Common.{◌∙◌, subst}
use Rattle.fdr.specs.Tasks.{ranges}
use Rattle.engine.specs.Draining.{AreDrained}
use Rattle.engine.proofs.Emptying.{none_drained, drained_have, one_worker_more}
use Rattle.engine.proofs.Members.{members_kept}
use Rattle.engine.proofs.Receiving.{lt_as, end_is}
use Rattle.engine.proofs.drain.empty_all.Goals as goal

pub loop-to-init : goal.loop-to-init
loop-to-init g c = λ space are. none_drained g.S.Spread.owner (g.F.StateForm.values (ranges space.task)) c.args.workers.now.items are.links

pub empty_rings_to-requires : goal.empty_rings_to-requires
empty_rings_to-requires g c =
    let values = g.F.StateForm.values (ranges c.requires.0.task) in
    let drained = c.loop-to.invariant c.requires.0 c.requires.1 in
    record {
      to = lt_as c.loop-to.to c.len-to-end.result _ _ c.loop-to-test.true (c.len-to-end.ensures ∙ c.args.workers.now.ok.0) drained.len;
      members = (
        c.requires.0,
        members_kept c.args.workers.now.items c.loop-to.workers.items
            (drained_have g.S.Spread.owner values c.loop-to.to c.args.workers.now.items c.loop-to.workers.items drained) c.requires.0 c.requires.1
            drained.links,
      );
    }

pub loop-to-preserved : goal.loop-to-preserved
loop-to-preserved g c = λ space are.
    let values = g.F.StateForm.values (ranges space.task) in
    let drained = c.loop-to.invariant space are in
    one_worker_more g.S.Spread.owner values c.loop-to.to c.args.workers.now.items c.loop-to.workers.items c.empty_rings_to.new.workers.items drained
    (c.in_ok-empty_rings_to.ensures space
    (members_kept c.args.workers.now.items c.loop-to.workers.items
    (drained_have g.S.Spread.owner values c.loop-to.to c.args.workers.now.items c.loop-to.workers.items drained) space are drained.links))

pub returns : goal.returns
returns g c = λ space are.
    subst (λ n. AreDrained g.S.Spread.owner (g.F.StateForm.values (ranges space.task)) n c.args.workers.now.items c.loop-to.workers.items)
    (end_is c.loop-to.to c.len-to-end.result _ c.loop-to-test.false c.loop-to.auto.to-end (c.len-to-end.ensures ∙ c.args.workers.now.ok.0))
    (c.loop-to.invariant space are)
