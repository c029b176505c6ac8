use Rattle.std.proofs.Common.{◌∙◌, subst}
use Rattle.std.specs.List.{insert}
use Rattle.worker.specs.Workers.{values_in}
use Rattle.engine.specs.Draining.{AreLinksEmptied}
use Rattle.engine.proofs.Beside.{same_length}
use Rattle.engine.proofs.Receiving.{still_within, rings_begun, rings_members, rings_none_aside, looked_count, looked_inside, rings_more, end_is}
use Rattle.engine.proofs.drain.empty_rings.Goals as goal

pub loop-from-init : goal.loop-from-init
loop-from-init g c =
    let len = same_length c.args.others.now.items c.match_links.new.others.items c.args.to c.args.receiver.now c.match_links.new.receiver
    c.match_links.ensures.looked.len in (
      rings_begun g.S.Spread.owner g.F.StateForm.values c.requires.members.0 c.args.to c.args.others.now.items c.args.receiver.now c.requires.to c.requires.members.1 c.match_links.new.others.items c.match_links.new.receiver len c.match_links.ensures.looked c.match_links.ensures.none_aside,
      len,
    )

pub empty_ring-requires : goal.empty_ring-requires
empty_ring-requires g c =
    let len = same_length c.args.others.now.items c.match_links.new.others.items c.args.to c.args.receiver.now c.match_links.new.receiver
    c.match_links.ensures.looked.len in
    let count = looked_count g.S.Spread.owner g.F.StateForm.values c.requires.members.0 c.args.to c.args.others.now.items c.args.receiver.now c.requires.to c.requires.members.1 c.match_links.new.others.items
    c.match_links.new.receiver len c.match_links.ensures.looked c.workers-from-end.result c.workers-from-end.ensures.outs in
    record {
      from = looked_inside g.S.Spread.owner g.F.StateForm.values c.requires.members.0 c.args.to c.args.others.now.items c.args.receiver.now c.requires.to c.requires.members.1 c.loop-from.others.items c.loop-from.invariant.1 c.loop-from.from c.workers-from-end.result c.loop-from-test.true count;
      to = still_within g.S.Spread.owner g.F.StateForm.values c.requires.members.0 c.args.to c.args.others.now.items c.args.receiver.now c.requires.to c.requires.members.1 c.loop-from.others.items c.loop-from.invariant.1;
      members = (
        c.requires.members.0,
        rings_members g.S.Spread.owner g.F.StateForm.values c.requires.members.0 c.args.to c.args.others.now.items c.args.receiver.now c.requires.to c.requires.members.1 c.loop-from.from c.loop-from.others.items c.loop-from.receiver c.loop-from.invariant.0,
      );
      none_aside = rings_none_aside g.S.Spread.owner g.F.StateForm.values c.requires.members.0 c.args.to c.args.others.now.items c.args.receiver.now c.requires.to c.requires.members.1 c.loop-from.from c.loop-from.others.items c.loop-from.receiver c.loop-from.invariant.1 c.loop-from.invariant.0;
    }

pub loop-from-preserved : goal.loop-from-preserved
loop-from-preserved g c = (
  rings_more g.S.Spread.owner g.F.StateForm.values c.requires.members.0 c.args.to c.args.others.now.items c.args.receiver.now c.requires.to c.requires.members.1
      c.loop-from.from c.loop-from.others.items c.empty_ring.new.others.items c.loop-from.receiver c.empty_ring.new.receiver c.loop-from.invariant.1
      c.loop-from.invariant.0 c.in_ok-empty_ring.ensures,
  same_length c.loop-from.others.items c.empty_ring.new.others.items c.args.to c.loop-from.receiver c.empty_ring.new.receiver
      c.in_ok-empty_ring.ensures.len
      ∙ c.loop-from.invariant.1,
)

pub returns : goal.returns
returns g c =
    let len = same_length c.args.others.now.items c.match_links.new.others.items c.args.to c.args.receiver.now c.match_links.new.receiver
    c.match_links.ensures.looked.len in
    let count = looked_count g.S.Spread.owner g.F.StateForm.values c.requires.members.0 c.args.to c.args.others.now.items c.args.receiver.now c.requires.to c.requires.members.1 c.match_links.new.others.items
    c.match_links.new.receiver len c.match_links.ensures.looked c.workers-from-end.result c.workers-from-end.ensures.outs in
    subst (λ n. AreLinksEmptied g.S.Spread.owner (values_in g.F.StateForm.values c.args.receiver.now) n c.args.to (insert c.args.others.now.items c.args.to c.args.receiver.now)
    (insert c.loop-from.others.items c.args.to c.loop-from.receiver))
    (end_is c.loop-from.from c.workers-from-end.result _ c.loop-from-test.false c.loop-from.auto.from-end count) c.loop-from.invariant.0
