use Rattle.test_walks.specs.Graphs.{AreListed}
use Rattle.test_walks.proofs.members.members_of_all.Given as goal

abbrev pub invariant-loop-class : goal.invariant-loop-class
invariant-loop-class l = AreListed l.count l.kinds l.class l.members.items
