use Rattle.std.proofs.Common.{◌≡◌, length}
use Rattle.std.specs.Prelude.{slice_get}
use Rattle.netcore.specs.declared.step.WorldStep.TheVariants.{Send}
use Rattle.netcore.specs.Worlds.{would_change}
use Rattle.netcore.specs.Possible.{sends_of}
use Rattle.netcore.proofs.Choosing.{passing}
use Rattle.netcore.proofs.world.World.nth_send_of.Given as goal

abbrev pub invariant-loop-to : goal.invariant-loop-to
invariant-loop-to g l =
    slice_get (sends_of g.S.Spread.owner l.self l.worker) l.number
    ≡ slice_get (passing (would_change g.S.Spread.owner l.self) (Send l.worker) l.to (length l.self.owners)) l.left
