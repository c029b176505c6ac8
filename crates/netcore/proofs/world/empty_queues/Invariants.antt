use Rattle.std.proofs.Common.{◌≡◌, ℕ, List, map, replicate, []}
use Rattle.extract.specs.Views.{packets_in}
use Rattle.netcore.proofs.world.empty_queues.Given as goal

abbrev pub invariant-loop : goal.invariant-loop
invariant-loop g l = (values : g.row.F.Denot → List ℕ) → map (packets_in values) l.queues.items ≡ replicate l.counter []
