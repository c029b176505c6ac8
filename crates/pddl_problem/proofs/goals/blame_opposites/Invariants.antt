use Rattle.std.proofs.Common.{◌≡◌, [], drop}
use Rattle.pddl_task.specs.Atoms.{wants, excludes}
use Rattle.pddl_syntax.specs.Faults.{first_of}
use Rattle.pddl_problem.specs.Goals.{wanted_in, excluded_in, opposite_faults}
use Rattle.pddl_problem.proofs.Opposites.{known_before}
use Rattle.pddl_problem.proofs.goals.blame_opposites.Given as goal

abbrev pub invariant-loop-placed : goal.invariant-loop-placed
invariant-loop-placed l = record {
  wanted : wanted_in l.known ≡ wants (known_before l.literals l.placed-index);
  excluded : excluded_in l.known ≡ excludes (known_before l.literals l.placed-index);
  faults : first_of l.first (opposite_faults (known_before l.literals l.placed-index) (drop l.placed-index l.literals)) ≡ first_of l.fn.first (opposite_faults [] l.literals);
}
