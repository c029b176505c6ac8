use Rattle.worker.proofs.worker.Worker.recall.Goals as goal

pub returns : goal.returns
returns g c = rw (← c.self.view_is) c.self.invariant.2
