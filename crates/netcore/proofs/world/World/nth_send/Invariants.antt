use Rattle.std.proofs.Common.{◌≡◌, length}
use Rattle.std.specs.Prelude.{slice_get, flat_map}
use Rattle.netcore.specs.Possible.{sends_of, below}
use Rattle.netcore.proofs.Choosing.{joined_from}
use Rattle.netcore.proofs.world.World.nth_send.Given as goal

abbrev pub invariant-loop-worker : goal.invariant-loop-worker
invariant-loop-worker g l =
    slice_get (flat_map (sends_of g.S.Spread.owner l.self) (below (length l.self.owners))) l.number
    ≡ slice_get (joined_from (sends_of g.S.Spread.owner l.self) l.worker (length l.self.owners)) l.left
