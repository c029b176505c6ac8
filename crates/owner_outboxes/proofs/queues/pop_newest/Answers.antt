use Rattle.owner_outboxes.proofs.Withdrawing.{newest_popped, newest_split}
use Rattle.owner_outboxes.proofs.queues.pop_newest.Goals as goal

pub returns-clause-last : goal.returns-clause-last
returns-clause-last g c =
    newest_split c.args.queues.now.items c.args.to c.index_mut.result.now c.pop_back.new.self _ c.requires c.index_mut.ensures.value
    c.pop_back.ensures.items

pub returns-clause-rest : goal.returns-clause-rest
returns-clause-rest g c =
    newest_popped c.args.queues.now.items c.args.to c.index_mut.result.now c.pop_back.new.self c.requires c.index_mut.ensures.value
    c.pop_back.ensures.rest
