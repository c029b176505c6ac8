use Rattle.std.proofs.Common.{refl}
use Rattle.pddl_worked.specs.Grip.{grip_domain, grip_problem, grip_task}
use Rattle.pddl_worked.proofs.Reading.{domain_fault, problem_fault, read_task, spelled}
use Rattle.pddl_worked.proofs.laws.grip_is_spelled.Goals as goal

pub returns : goal.returns
unfolding domain_fault problem_fault read_task grip_domain grip_problem grip_task
returns c = spelled grip_domain grip_problem grip_task (refl, refl) (refl, refl) refl refl refl
