use Rattle.translate_theory.proofs.Bounding.{same_plans}
use Rattle.translate_theory.proofs.SamePlans.{plan_listed}
use Rattle.translate_theory.proofs.laws.translation_has_same_plans.Goals as goal

pub returns-clause-plans : goal.returns-clause-plans
returns-clause-plans c = same_plans

pub returns-clause-listed : goal.returns-clause-listed
returns-clause-listed c = plan_listed
