use Rattle.optplan_pddl.proofs.TextPromises.{valid_plan_is}
use Rattle.optplan_pddl.proofs.text_laws.valid_plan_is_found_valid.Goals as goal

pub returns : goal.returns
returns c = valid_plan_is
