use Rattle.std.proofs.Common.{refl}
use Rattle.pddl_worked.specs.Noop.{noop_domain, noop_problem, noop_task}
use Rattle.pddl_worked.proofs.Reading.{domain_fault, problem_fault, read_task, spelled}
use Rattle.pddl_worked.proofs.laws.noop_is_spelled.Goals as goal

pub returns : goal.returns
unfolding domain_fault problem_fault read_task noop_domain noop_problem noop_task
returns c = spelled noop_domain noop_problem noop_task (refl, refl) (refl, refl) refl refl refl
