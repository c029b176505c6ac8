use Rattle.std.proofs.Common.{refl}
use Rattle.pddl_syntax.specs.declared.fault.FaultKind.TheVariants.{NotWhole}
use Rattle.pddl_syntax.specs.Faults.{fault}
use Rattle.pddl_worked.specs.Drive.{drive_domain, problem_with_length, drive_problem_with_fraction}
use Rattle.pddl_worked.proofs.Reading.{domain_fault, problem_fault, refused}
use Rattle.pddl_worked.proofs.laws.fraction_is_refused.Goals as goal

pub returns : goal.returns
unfolding domain_fault problem_fault drive_domain problem_with_length drive_problem_with_fraction
returns c = refused drive_domain drive_problem_with_fraction (fault NotWhole 156) (refl, refl) (refl, refl) refl refl
