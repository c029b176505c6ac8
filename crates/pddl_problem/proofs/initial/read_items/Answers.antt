use Rattle.std.proofs.Common.{arith}
use Rattle.sexp.proofs.Walking.{walking}
use Rattle.pddl_syntax.specs.Faults.{first_of}
use Rattle.pddl_problem.proofs.initial.read_items.Goals as goal

pub loop-count-preserved : goal.loop-count-preserved
unfolding first_of
loop-count-preserved c = record { atoms = grind (arith, walking); values = grind (arith, walking); faults = grind (arith, walking) }
