use Rattle.owner_outboxes.proofs.Boxing.{pushed, unpushed}
use Rattle.owner_outboxes.proofs.Results.{on_err}
use Rattle.owner_outboxes.proofs.queues.push_last.Goals as goal

pub returns-clause-posted : goal.returns-clause-posted
returns-clause-posted g c =
    pushed c.args.queues.now.items c.args.to c.index_mut.result.now c.push_back.new.self c.args.message c.requires
    c.index_mut.ensures.value c.in_ok-push_back.ensures.items

pub returns-in_err-push_back-clause-unchanged : goal.returns-in_err-push_back-clause-unchanged
returns-in_err-push_back-clause-unchanged g c =
    on_err _ _
    (unpushed c.args.queues.now.items c.args.to c.index_mut.result.now c.push_back.new.self c.requires c.index_mut.ensures.value
    c.in_err-push_back.ensures.items)
