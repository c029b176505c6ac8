use Rattle.std.proofs.Common.{refl}
use Rattle.pddl_worked.specs.Road.{road_domain, road_problem, road_task}
use Rattle.pddl_worked.proofs.Reading.{domain_fault, problem_fault, read_task, spelled}
use Rattle.pddl_worked.proofs.laws.road_is_spelled.Goals as goal

pub returns : goal.returns
unfolding domain_fault problem_fault read_task road_domain road_problem road_task
returns c = spelled road_domain road_problem road_task (refl, refl) (refl, refl) refl refl refl
