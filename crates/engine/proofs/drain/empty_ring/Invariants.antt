use Rattle.std.proofs.Common.{◌≡◌, length}
use Rattle.std.specs.List.{insert}
use Rattle.worker.specs.Workers.{values_in}
use Rattle.engine.proofs.Emptying.{IsEmptying}
use Rattle.engine.proofs.drain.empty_ring.Given as goal

abbrev pub invariant-loop : goal.invariant-loop
invariant-loop g l =
    IsEmptying g.S.Spread.owner (values_in g.F.StateForm.values l.fn.receiver) l.from l.to (insert l.fn.others.items l.to l.fn.receiver) (insert l.others.items l.to l.receiver) l.waiting l.counter
    × (length l.others.items ≡ length l.fn.others.items)
