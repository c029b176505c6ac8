use Rattle.test_walks.proofs.OperatorLists.{AreMembersBelow}
use Rattle.test_walks.proofs.members.members_of.Given as goal

abbrev pub invariant-loop-operator : goal.invariant-loop-operator
invariant-loop-operator l = AreMembersBelow l.kinds l.class l.operator l.members.items
