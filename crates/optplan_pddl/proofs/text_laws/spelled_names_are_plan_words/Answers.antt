use Rattle.optplan_pddl.proofs.TextPromises.{plan_names_are}
use Rattle.optplan_pddl.proofs.text_laws.spelled_names_are_plan_words.Goals as goal

pub returns : goal.returns
returns c = plan_names_are
