use Rattle.validate.proofs.PlanLaws.{plan_clean}
use Rattle.validate.proofs.laws.no_plan_fault.Goals as goal

pub returns : goal.returns
returns c = plan_clean
