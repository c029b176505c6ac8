use Rattle.std.proofs.Common.{◌≡◌, length}
use Rattle.std.specs.List.{insert}
use Rattle.worker.specs.Workers.{values_in}
use Rattle.engine.specs.Draining.{AreLinksEmptied}
use Rattle.engine.proofs.drain.empty_rings.Given as goal

abbrev pub invariant-loop-from : goal.invariant-loop-from
invariant-loop-from g l =
    AreLinksEmptied g.S.Spread.owner (values_in g.F.StateForm.values l.fn.receiver) l.from l.to (insert l.fn.others.items l.to l.fn.receiver) (insert l.others.items l.to l.receiver)
    × (length l.others.items ≡ length l.fn.others.items)
