use Rattle.pddl_layout.proofs.TokenReading.{tokens_task}
use Rattle.pddl_layout.proofs.laws.same_tokens_spell_one_task.Goals as goal

pub returns : goal.returns
returns c = tokens_task
