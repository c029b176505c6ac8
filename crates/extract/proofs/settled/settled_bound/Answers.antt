use Rattle.std.proofs.Common.{◌∙◌, sym, subst}
use Rattle.fdr.specs.Tasks.{ranges}
use Rattle.owner.specs.Spaces.{SpaceOf}
use Rattle.extract.specs.Views.{all_packets}
use Rattle.extract.proofs.Places.{at_read}
use Rattle.extract.proofs.Pending.{settled_where, unsettled_where}
use Rattle.extract.proofs.settled.settled_bound.Goals as goal

pub returns-then-le : goal.returns-then-le
returns-then-le g c =
    settled_where g.S.Spread.owner
    (record { space = c.args.space.now; owners = c.args.owners.now; left = all_packets (g.F.StateForm.values (ranges c.args.space.now.task)) c.args.left.now }) c.requires
    c.best_goal-best.result c.least_pending.result c.best_goal-best.ensures c.least_pending.ensures (sym c.le.ensures ∙ c.if-le.true)

pub returns : goal.returns
returns g c =
    unsettled_where g.S.Spread.owner
    (record { space = c.args.space.now; owners = c.args.owners.now; left = all_packets (g.F.StateForm.values (ranges c.args.space.now.task)) c.args.left.now }) c.requires
    c.best_goal-best.result c.least_pending.result c.best_goal-best.ensures c.least_pending.ensures (sym c.le.ensures ∙ c.if-le.false)

pub least_pending-requires-clause-fits : goal.least_pending-requires-clause-fits
least_pending-requires-clause-fits g c =
    let first = c.requires.each 0 c.index-owners-0.result
    (at_read c.args.owners.now 0 c.index-owners-0.result c.requires.some c.index-owners-0.is) in
    subst (λ (s : SpaceOf g.row.S.Denot). g.F.StateForm.Fits (ranges s.task)) first.0 c.recall.ensures.fits
