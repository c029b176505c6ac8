use Rattle.std.proofs.Common.{◌∙◌, refl}
use Rattle.std.specs.List.{insert}
use Rattle.engine.proofs.Beside.{same_length}
use Rattle.engine.proofs.Emptying.{no_link_yet, one_link_more}
use Rattle.engine.proofs.Receiving.{still_within, still_inside, matching_members, matching_done}
use Rattle.engine.proofs.drain.match_links.Goals as goal

pub loop-from-init : goal.loop-from-init
loop-from-init g c = (no_link_yet g.S.Spread.owner c.args.to (insert c.args.others.now.items c.args.to c.args.receiver.now) c.requires.members.1.links, refl)

pub match_link-requires : goal.match_link-requires
match_link-requires g c = record {
  from = still_inside g.S.Spread.owner g.F.StateForm.values c.requires.members.0 c.args.to c.args.others.now.items c.args.receiver.now c.requires.to c.requires.members.1
      c.loop-from.others.items c.loop-from.invariant.1 c.loop-from.from c.workers-from-end.result c.loop-from-test.true c.workers-from-end.ensures.outs;
  to = still_within g.S.Spread.owner g.F.StateForm.values c.requires.members.0 c.args.to c.args.others.now.items c.args.receiver.now c.requires.to c.requires.members.1
      c.loop-from.others.items c.loop-from.invariant.1;
  members = (
    c.requires.members.0,
    matching_members g.S.Spread.owner g.F.StateForm.values c.requires.members.0 c.args.to c.args.others.now.items c.args.receiver.now c.requires.to c.requires.members.1
        c.loop-from.from c.loop-from.others.items c.loop-from.receiver c.loop-from.invariant.0,
  );
}

pub loop-from-preserved : goal.loop-from-preserved
loop-from-preserved g c = (
  one_link_more g.S.Spread.owner c.loop-from.from c.args.to c.match_link.result _ _ _ c.loop-from.invariant.0 c.match_link.ensures,
  same_length c.loop-from.others.items c.match_link.new.others.items c.args.to c.loop-from.receiver c.match_link.new.receiver
      c.match_link.ensures.looked.len
      ∙ c.loop-from.invariant.1,
)

pub returns-clause-looked : goal.returns-clause-looked
returns-clause-looked g c = c.loop-from.invariant.0.looked

pub returns-clause-none_aside : goal.returns-clause-none_aside
returns-clause-none_aside g c =
    matching_done g.S.Spread.owner g.F.StateForm.values c.requires.members.0 c.args.to c.args.others.now.items c.args.receiver.now c.requires.to c.requires.members.1
    c.loop-from.from c.workers-from-end.result c.loop-from.others.items c.loop-from.receiver c.loop-from.invariant.1 c.loop-from-test.false
    c.workers-from-end.ensures.outs c.loop-from.invariant.0 c.recall_each.ensures c.recall.ensures c.owner.result.now c.owner.ensures c.recall-2.ensures.space
