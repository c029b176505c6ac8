use Rattle.std.proofs.Common.{sym}
use Rattle.pddl_task.proofs.TypeLaws.{fits_unequal}
use Rattle.pddl_task.proofs.task.Task.fits.Goals as goal

pub returns-then-types-objects : goal.returns-then-types-objects
returns-then-types-objects c = sym (fits_unequal c.args.self.now c.args.types.now c.args.objects.now c.if-types-objects.true)
