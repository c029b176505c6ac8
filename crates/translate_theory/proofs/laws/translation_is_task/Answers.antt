use Rattle.translate_theory.proofs.Ranges.{translation_is_task as is_task}
use Rattle.translate_theory.proofs.laws.translation_is_task.Goals as goal

pub returns : goal.returns
returns c = is_task
