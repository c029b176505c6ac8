use Rattle.fdr.specs.Tasks.{ranges}
use Rattle.owner.specs.Spaces.{SpaceOf}
use Rattle.engine.specs.Teams.{AreMembers}
use Rattle.engine.specs.Draining.{AreDrained}
use Rattle.engine.proofs.drain.empty_all.Given as goal

abbrev pub invariant-loop-to : goal.invariant-loop-to
invariant-loop-to g l =
    (space : SpaceOf g.row.S.Denot) → AreMembers space l.fn.workers.items
    → AreDrained g.S.Spread.owner (g.F.StateForm.values (ranges space.task)) l.to l.fn.workers.items l.workers.items
