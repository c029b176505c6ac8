use Rattle.std.proofs.Common.{length}
use Rattle.links.specs.Tables.{rows}
use Rattle.engine.proofs.Starting.{AreStarting}
use Rattle.engine.proofs.team.first_workers.Given as goal

abbrev pub invariant-loop-outs : goal.invariant-loop-outs
invariant-loop-outs g l =
    AreStarting l.space (length l.fn.links.outs.items) (rows l.fn.links.outs.items) (rows l.fn.links.ins.items) l.workers.items
    (rows l.outs-iterator.a.rest.items) (rows l.outs-iterator.b.rest.items)
