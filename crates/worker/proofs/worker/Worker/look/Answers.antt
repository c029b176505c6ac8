use Rattle.std.proofs.Common.{◌∙◌}
use Rattle.cost.proofs.DistanceLaws.{ord_min-is_lesser}
use Rattle.worker.proofs.Steps.{looks}
use Rattle.worker.proofs.Working.{looked}
use Rattle.worker.proofs.worker.Worker.look.Goals as goal

pub invariant_of-self : goal.invariant_of-self
invariant_of-self g c = (
  c.self.invariant.0,
  c.self.invariant.1,
  looked g.S.Spread.owner g.F.StateForm.values _ c.look-self-inside.result c.min-self-inside.result
      (c.min-self-inside.ensures ∙ ord_min-is_lesser c.self.inside.seen c.look-self-inside.result) c.self.invariant.2,
)

pub returns-clause-looked : goal.returns-clause-looked
returns-clause-looked g c =
    rw (← c.self.view_is)
    (looks _ c.look-self-inside.result c.min-self-inside.result _ _
    (c.min-self-inside.ensures ∙ ord_min-is_lesser c.self.inside.seen c.look-self-inside.result)
    c.look-self-inside.ensures.view c.look-self-inside.ensures.falls)
