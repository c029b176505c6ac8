use Rattle.std.proofs.Common.{sym}
use Rattle.owner_theory.proofs.Plans.{best_node, settled_plan, settled_plan_cost}
use Rattle.owner_theory.proofs.laws.settled_family_has_plan.Goals as goal

pub returns-clause-found : goal.returns-clause-found
returns-clause-found c = λ space family n ok law settled. best_node space family ok law n (sym settled.best)

pub returns-clause-plan : goal.returns-clause-plan
returns-clause-plan c = settled_plan

pub returns-clause-exact : goal.returns-clause-exact
returns-clause-exact c = settled_plan_cost
