use Rattle.optplan_pddl.proofs.NamedTexts.{named_text_is}
use Rattle.optplan_pddl.proofs.plan_laws.named_plan_is_read.Goals as goal

pub returns : goal.returns
returns c = named_text_is
