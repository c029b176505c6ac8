use Rattle.std.proofs.Common.{refl}
use Rattle.translate_theory.proofs.laws.worked_tasks_translate.Goals as goal

pub returns-clause-one_variable : goal.returns-clause-one_variable
returns-clause-one_variable c = refl

pub returns-clause-variable_each : goal.returns-clause-variable_each
returns-clause-variable_each c = refl

pub returns-clause-gripper : goal.returns-clause-gripper
returns-clause-gripper c = (refl, refl, refl, refl, refl)
