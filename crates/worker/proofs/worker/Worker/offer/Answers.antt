use Rattle.std.proofs.Common.{◌∙◌, ap}
use Rattle.cost.specs.Distances.{lesser}
use Rattle.cost.proofs.DistanceLaws.{ord_min-is_lesser}
use Rattle.board.specs.Rule.{with_offered}
use Rattle.board.specs.Seats.{view}
use Rattle.worker.proofs.Steps.{offers}
use Rattle.worker.proofs.Working.{offered}
use Rattle.worker.proofs.worker.Worker.offer.Goals as goal

pub invariant_of-self : goal.invariant_of-self
invariant_of-self g c = (
  c.self.invariant.0,
  c.self.invariant.1,
  offered g.S.Spread.owner g.F.StateForm.values _ c.min-self-inside.result
      (c.min-self-inside.ensures ∙ (ord_min-is_lesser c.self.inside.offered c.best_goal-best.result ∙ ap (lesser c.self.inside.offered) c.best_goal-best.ensures))
      c.self.invariant.2,
)

pub returns-clause-offered : goal.returns-clause-offered
returns-clause-offered g c =
    rw (← c.self.view_is)
    (offers _ c.min-self-inside.result _ _
    (c.min-self-inside.ensures ∙ (ord_min-is_lesser c.self.inside.offered c.best_goal-best.result ∙ ap (lesser c.self.inside.offered) c.best_goal-best.ensures))
    (c.offer.ensures.view ∙ ap (λ d. with_offered (view c.args.seat.now) (lesser (view c.args.seat.now).offered d)) c.best_goal-best.ensures))
