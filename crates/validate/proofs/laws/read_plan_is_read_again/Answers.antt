use Rattle.validate.proofs.ReadPlans.{read_again_is}
use Rattle.validate.proofs.laws.read_plan_is_read_again.Goals as goal

pub returns : goal.returns
returns c = read_again_is
