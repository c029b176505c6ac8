use Rattle.owner_outboxes.proofs.Boxing.{others, popped, none_popped}
use Rattle.owner_outboxes.proofs.queues.pop_oldest.Goals as goal

pub returns-clause-others : goal.returns-clause-others
returns-clause-others g c = others c.args.queues.now.items c.args.to c.pop_front.new.self c.requires

pub returns-clause-first : goal.returns-clause-first
returns-clause-first g c =
    popped c.args.queues.now.items c.args.to c.index_mut.result.now c.pop_front.new.self _ c.requires c.index_mut.ensures.value
    c.pop_front.ensures.items

pub returns-clause-none : goal.returns-clause-none
returns-clause-none g c =
    none_popped c.pop_front.result c.args.queues.now.items c.args.to c.index_mut.result.now _ _ c.requires c.index_mut.ensures.value c.pop_front.ensures.cases
