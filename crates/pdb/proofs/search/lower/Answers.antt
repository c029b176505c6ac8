use Rattle.std.proofs.Common.{arith}
use Rattle.pdb.proofs.Lowering.{HasLowered-added}
use Rattle.pdb.proofs.search.lower.Goals as goal

pub returns-in_ok-add : goal.returns-in_ok-add
returns-in_ok-add c =
    HasLowered-added c.args.values.now c.args.queue.now c.add.new.self c.args.state c.args.value c.requires (omega (arith, c.if-value-values.true)) c.in_ok-add.ensures
