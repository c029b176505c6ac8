use Rattle.std.proofs.Common.{◌≡◌, false, take}
use Rattle.netcore.specs.Worlds.{IsWorldAfter}
use Rattle.netcore.proofs.world.World.run.Given as goal

abbrev pub invariant-loop-step : goal.invariant-loop-step
invariant-loop-step g l = IsWorldAfter g.S.Spread.owner l.space l.owners (take l.step-index l.steps) l.world × (l.world.limited ≡ false)
