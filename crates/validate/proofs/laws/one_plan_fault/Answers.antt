use Rattle.validate.proofs.PlanLaws.{one_fault_is}
use Rattle.validate.proofs.laws.one_plan_fault.Goals as goal

pub returns : goal.returns
returns c = one_fault_is
