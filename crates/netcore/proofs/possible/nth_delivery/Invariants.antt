use Rattle.std.proofs.Common.{◌≡◌, ℕ, List, map, drop}
use Rattle.std.specs.Prelude.{slice_get}
use Rattle.extract.specs.Views.{packets_in}
use Rattle.netcore.specs.Possible.{deliveries}
use Rattle.netcore.proofs.possible.nth_delivery.Given as goal

abbrev pub invariant-loop-worker : goal.invariant-loop-worker
invariant-loop-worker g l = (values : g.row.F.Denot → List ℕ)
    → slice_get (deliveries 0 (map (packets_in values) l.queues)) l.number
    ≡ slice_get (deliveries l.worker (map (packets_in values) (drop l.worker l.queues))) l.left
