use Rattle.optplan_pddl.proofs.PlanVerdicts.{plan_has_verdict}
use Rattle.optplan_pddl.proofs.plan_laws.valid_plan_has_verdict.Goals as goal

pub returns : goal.returns
returns c = λ domain problem task actions spelled valid. plan_has_verdict domain problem task spelled actions valid
