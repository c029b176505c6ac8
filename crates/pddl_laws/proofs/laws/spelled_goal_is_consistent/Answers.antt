use Rattle.pddl_laws.proofs.GoalLaws.{spelled_well}
use Rattle.pddl_laws.proofs.laws.spelled_goal_is_consistent.Goals as goal

pub returns : goal.returns
returns c = spelled_well
