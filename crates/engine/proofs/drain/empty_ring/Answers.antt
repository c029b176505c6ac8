use Rattle.std.proofs.Common.{◌∙◌}
use Rattle.engine.proofs.Beside.{same_length}
use Rattle.engine.proofs.Receiving.{ring_begun, ring_done, receive_inside, receive_none_aside, receive_countable, ring_members, ring_step}
use Rattle.engine.proofs.drain.empty_ring.Goals as goal

pub loop-init : goal.loop-init
loop-init g c = (
  ring_begun g.S.Spread.owner g.F.StateForm.values c.requires.members.0 c.args.to c.args.others.now.items c.args.receiver.now c.requires.to c.requires.members.1 c.args.from c.match_link-waiting.result c.match_link-waiting.new.others.items c.match_link-waiting.new.receiver c.requires.none_aside
      c.match_link-waiting.ensures,
  same_length c.args.others.now.items c.match_link-waiting.new.others.items c.args.to c.args.receiver.now c.match_link-waiting.new.receiver
      c.match_link-waiting.ensures.looked.len,
)

pub receive-requires-clause-within : goal.receive-requires-clause-within
receive-requires-clause-within g c =
    receive_inside g.S.Spread.owner g.F.StateForm.values c.requires.members.0 c.args.to c.args.others.now.items c.args.receiver.now c.requires.to c.requires.members.1
    c.args.from c.match_link-waiting.result c.loop.counter c.loop.others.items c.loop.receiver c.begin_round.new.self c.loop.invariant.1 c.loop.invariant.0
    c.begin_round.ensures c.requires.from

pub receive-requires-clause-none_aside : goal.receive-requires-clause-none_aside
receive-requires-clause-none_aside g c =
    receive_none_aside g.S.Spread.owner g.F.StateForm.values c.requires.members.0 c.args.to c.args.others.now.items c.args.receiver.now c.requires.to c.requires.members.1
    c.args.from c.match_link-waiting.result c.loop.counter c.loop.others.items c.loop.receiver c.begin_round.new.self c.loop.invariant.1 c.loop.invariant.0
    c.begin_round.ensures

pub receive-requires-clause-countable : goal.receive-requires-clause-countable
receive-requires-clause-countable g c =
    receive_countable g.S.Spread.owner g.F.StateForm.values c.requires.members.0 c.args.to c.args.others.now.items c.args.receiver.now c.requires.to c.requires.members.1
    c.args.from c.match_link-waiting.result c.loop.counter c.loop.others.items c.loop.receiver c.begin_round.new.self c.loop.invariant.1 c.loop.invariant.0
    c.begin_round.ensures

pub match_link-requires-clause-members : goal.match_link-requires-clause-members
match_link-requires-clause-members g c = (
  c.requires.members.0,
  ring_members g.S.Spread.owner g.F.StateForm.values c.requires.members.0 c.args.to c.args.others.now.items c.args.receiver.now c.requires.to c.requires.members.1
      c.args.from c.match_link-waiting.result c.loop.counter c.loop.others.items c.loop.receiver c.begin_round.new.self c.loop.invariant.1 c.loop.invariant.0
      c.begin_round.ensures c.receive.new.self _ c.in_ok-receive.ensures.received,
)

pub loop-preserved : goal.loop-preserved
loop-preserved g c =
    let len = same_length c.loop.others.items c.match_link.new.others.items c.args.to c.receive.new.self c.match_link.new.receiver
    c.match_link.ensures.looked.len ∙ c.loop.invariant.1 in (
      ring_step g.S.Spread.owner g.F.StateForm.values c.requires.members.0 c.args.to c.args.others.now.items c.args.receiver.now c.requires.to c.requires.members.1
          c.args.from c.match_link-waiting.result c.loop.counter c.loop.others.items c.loop.receiver c.begin_round.new.self c.loop.invariant.1 c.loop.invariant.0
          c.begin_round.ensures c.receive.new.self _ c.in_ok-receive.ensures.received c.match_link.new.others.items c.match_link.new.receiver c.match_link.result
          len c.match_link.ensures c.loop-test.true c.requires.from c.recall_each.ensures c.recall.ensures c.owner.result.now c.owner.ensures
          c.recall-in-loop.ensures.space,
      len,
    )

pub returns : goal.returns
returns g c =
    ring_done g.S.Spread.owner g.F.StateForm.values c.requires.members.0 c.args.to c.args.others.now.items c.args.receiver.now c.requires.to c.requires.members.1 c.args.from c.match_link-waiting.result c.loop.counter c.loop.others.items c.loop.receiver c.loop.invariant.1 c.loop-test.false
    c.loop.invariant.0
