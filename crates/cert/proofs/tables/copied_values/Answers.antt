use Rattle.std.proofs.Common.{◌∙◌}
use Rattle.cert.proofs.Copies.{one_copied}
use Rattle.cert.proofs.tables.copied_values.Goals as goal

pub loop-state-preserved : goal.loop-state-preserved
loop-state-preserved c = c.in_ok-push.ensures.ok ∙ one_copied c.args.values.now c.loop-state.state c.get.result c.get.ensures c.loop-state.copy c.loop-state.invariant
