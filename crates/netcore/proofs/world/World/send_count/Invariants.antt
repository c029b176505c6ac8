use Rattle.std.proofs.Common.{◌≡◌, ◌-◌, ◌^◌, min, length}
use Rattle.std.specs.Prelude.{flat_map}
use Rattle.netcore.specs.Possible.{sends_of, below}
use Rattle.netcore.proofs.world.World.send_count.Given as goal

abbrev pub invariant-loop-worker : goal.invariant-loop-worker
invariant-loop-worker g l = l.count ≡ min (length (flat_map (sends_of g.S.Spread.owner l.self) (below l.worker))) (2 ^ 128 - 1)
