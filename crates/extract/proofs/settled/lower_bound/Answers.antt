use Rattle.std.proofs.Common.{◌∙◌, ap, subst}
use Rattle.cost.specs.Distances.{Distance, lesser}
use Rattle.cost.proofs.DistanceLaws.{ord_min-is_lesser}
use Rattle.fdr.specs.Tasks.{ranges}
use Rattle.owner.specs.Spaces.{SpaceOf}
use Rattle.extract.specs.Views.{all_packets}
use Rattle.extract.specs.Bounds.{least_best, stated}
use Rattle.extract.proofs.Places.{at_read}
use Rattle.extract.proofs.settled.lower_bound.Goals as goal

pub returns : goal.returns
returns g c =
    c.stated.ensures
    ∙ ap stated
    (c.min.ensures ∙ ord_min-is_lesser c.best_goal.result c.least_pending-pending.result
    ∙ ap (λ (d : Distance). lesser d c.least_pending-pending.result) c.best_goal.ensures
    ∙ ap (lesser (least_best (record { space = c.args.space.now; owners = c.args.owners.now; left = all_packets (g.F.StateForm.values (ranges c.args.space.now.task)) c.args.left.now }))) c.least_pending-pending.ensures)

pub least_pending-pending-requires-clause-fits : goal.least_pending-pending-requires-clause-fits
least_pending-pending-requires-clause-fits g c =
    let first = c.requires.each 0 c.index-owners-0.result
    (at_read c.args.owners.now 0 c.index-owners-0.result c.requires.some c.index-owners-0.is) in
    subst (λ (s : SpaceOf g.row.S.Denot). g.F.StateForm.Fits (ranges s.task)) first.0 c.recall.ensures.fits
