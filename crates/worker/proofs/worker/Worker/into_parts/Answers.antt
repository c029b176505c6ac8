use Rattle.std.proofs.Common.{refl}
use Rattle.worker.proofs.worker.Worker.into_parts.Goals as goal

pub returns-clause-misfit : goal.returns-clause-misfit
returns-clause-misfit g c = rw (← c.self.view_is) refl
