use Rattle.std.proofs.Common.{refl}
use Rattle.pddl_worked.specs.Drive.{drive_domain, drive_problem, problem_with_length, drive_task}
use Rattle.pddl_worked.proofs.Reading.{domain_fault, problem_fault, read_task, spelled}
use Rattle.pddl_worked.proofs.laws.drive_is_spelled.Goals as goal

pub returns : goal.returns
unfolding domain_fault problem_fault read_task drive_domain drive_problem problem_with_length drive_task
returns c = spelled drive_domain drive_problem drive_task (refl, refl) (refl, refl) refl refl refl
