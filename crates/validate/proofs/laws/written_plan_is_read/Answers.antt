use Rattle.validate.proofs.WrittenPlans.{written_is}
use Rattle.validate.proofs.laws.written_plan_is_read.Goals as goal

pub returns : goal.returns
returns c = written_is
