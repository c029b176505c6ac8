use Rattle.engine.proofs.Receiving.{taken_out, put_in, out_within}
use Rattle.engine.proofs.drain.empty_rings_to.Goals as goal

pub empty_rings-requires : goal.empty_rings-requires
empty_rings-requires g c = record {
  to = out_within c.args.workers.now.items c.remove-receiver.new.self.items c.args.to c.remove-receiver.result c.requires.to c.remove-receiver.ensures.value
      c.remove-receiver.ensures.items;
  members = (
    c.requires.members.0,
    taken_out c.requires.members.0 c.args.workers.now.items c.remove-receiver.new.self.items c.args.to c.remove-receiver.result c.requires.to
        c.remove-receiver.ensures.value c.remove-receiver.ensures.items c.requires.members.1,
  );
}

pub returns : goal.returns
returns g c =
    rw c.in_ok-insert.ensures.items
    (put_in g.S.Spread.owner g.F.StateForm.values c.args.workers.now.items c.remove-receiver.new.self.items c.args.to c.remove-receiver.result c.requires.to
    c.remove-receiver.ensures.value c.remove-receiver.ensures.items _ c.in_ok-empty_rings.ensures)
