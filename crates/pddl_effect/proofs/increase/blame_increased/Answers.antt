use Rattle.std.proofs.Common.{arith}
use Rattle.sexp.proofs.Walking.{walking}
use Rattle.pddl_syntax.proofs.Trees.{noting}
use Rattle.pddl_syntax.specs.Faults.{first_of}
use Rattle.pddl_effect.proofs.increase.blame_increased.Goals as goal

pub returns-in-Word-head : goal.returns-in-Word-head
unfolding first_of
returns-in-Word-head c = grind (arith, walking, noting, c.blame_increased_list.ensures c.in-Word-head.head_span.end)
