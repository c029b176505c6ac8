use Rattle.std.proofs.Common.{◌<◌, subst}
use Rattle.links.specs.declared.ends.Out.{Out}
use Rattle.links.specs.Ends.{room}
use Rattle.worker.proofs.Rows.{sent_kept, set_there}
use Rattle.worker.proofs.ends.has_room.Goals as goal

pub returns-clause-sent : goal.returns-clause-sent
returns-clause-sent g c = λ values v.
    sent_kept values c.args.outs.now.items c.args.to c.index_mut.result.now c.has_room.new.self v c.requires c.index_mut.ensures.value c.has_room.ensures.same

pub returns-clause-room : goal.returns-clause-room
returns-clause-room g c = λ free o at.
    subst (λ (x : Out _). 0 < room x) (set_there c.args.outs.now.items c.args.to c.has_room.new.self o c.requires at) (c.has_room.ensures.room free)
