use Rattle.sasfile_writer.proofs.PlanLaws.{same_plans, same_costs}
use Rattle.sasfile_writer.proofs.laws.text_order_has_same_plans.Goals as goal

pub returns-clause-plans : goal.returns-clause-plans
returns-clause-plans c = same_plans

pub returns-clause-costs : goal.returns-clause-costs
returns-clause-costs c = same_costs
