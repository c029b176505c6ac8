use Rattle.validate.proofs.PlanLaws.{one_plan_is}
use Rattle.validate.proofs.laws.one_plan.Goals as goal

pub returns : goal.returns
returns c = one_plan_is
