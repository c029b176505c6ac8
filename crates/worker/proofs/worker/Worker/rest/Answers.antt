use Rattle.worker.proofs.Working.{counted}
use Rattle.worker.proofs.worker.Worker.rest.Goals as goal

pub invariant_of-self : goal.invariant_of-self
invariant_of-self g c = (c.self.invariant.0, c.self.invariant.1, counted g.S.Spread.owner g.F.StateForm.values _ _ _ _ c.self.invariant.2)
