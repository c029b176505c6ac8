use Rattle.optplan_pddl.proofs.SameTexts.{same_text}
use Rattle.optplan_pddl.proofs.plan_laws.translated_plan_has_same_text.Goals as goal

pub returns : goal.returns
returns c = λ task t actions plan cost made pairs. same_text task t made actions plan cost pairs
