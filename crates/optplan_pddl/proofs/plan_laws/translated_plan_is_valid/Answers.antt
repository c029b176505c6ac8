use Rattle.optplan_pddl.proofs.Actions.{plan_is_valid}
use Rattle.optplan_pddl.proofs.plan_laws.translated_plan_is_valid.Goals as goal

pub returns : goal.returns
returns c = λ task t plan made same h. plan_is_valid task t made plan same h
