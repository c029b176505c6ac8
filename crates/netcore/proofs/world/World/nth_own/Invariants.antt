use Rattle.std.proofs.Common.{◌≡◌, length}
use Rattle.std.specs.Prelude.{slice_get}
use Rattle.netcore.specs.Worlds.{would_change}
use Rattle.netcore.specs.Possible.{own_step, by_owner}
use Rattle.netcore.proofs.Choosing.{passing}
use Rattle.netcore.proofs.world.World.nth_own.Given as goal

abbrev pub invariant-loop-worker : goal.invariant-loop-worker
invariant-loop-worker g l =
    slice_get (by_owner g.S.Spread.owner l.self (own_step l.kind)) l.number
    ≡ slice_get (passing (would_change g.S.Spread.owner l.self) (own_step l.kind) l.worker (length l.self.owners)) l.left
