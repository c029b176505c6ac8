use Rattle.std.proofs.Common.{sym, ap, ◌∙◌}
use Rattle.owner_outboxes.specs.Outboxes.{count_in_use, message_count}
use Rattle.owner_outboxes.proofs.Boxing.{none_counted}
use Rattle.owner_outboxes.proofs.Using.{none_used}
use Rattle.owner_outboxes.proofs.queues.Outboxes.empty.Goals as goal

pub invariant_of-result : goal.invariant_of-result
invariant_of-result g c = (
  sym (ap count_in_use c.in_ok-empty_queues.ensures ∙ none_used _ c.args.owners),
  sym (ap message_count c.in_ok-empty_queues.ensures ∙ none_counted _ c.args.owners),
)
