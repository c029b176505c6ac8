use Rattle.std.proofs.Common.{◌∙◌, arith}
use Rattle.fdr.specs.Tasks.{ranges}
use Rattle.closed.specs.Tables.{message_of}
use Rattle.extract.specs.Pending.{f_at}
use Rattle.extract.proofs.Leasts.{least_step}
use Rattle.extract.proofs.settled.least_of_messages.Goals as goal

pub loop-i-preserved : goal.loop-i-preserved
loop-i-preserved g c =
    c.min-least.ensures
    ∙ least_step (λ m. f_at c.args.space.now (message_of (g.F.StateForm.values (ranges c.args.space.now.task)) m)) c.args.messages.now.items c.loop-i.i c.index.result.now c.loop-i.least c.f_of.result
    (omega arith) c.index.ensures c.f_of.ensures c.loop-i.invariant
