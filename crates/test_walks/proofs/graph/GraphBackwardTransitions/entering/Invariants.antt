use Rattle.test_walks.proofs.Entering.{AreEnteringBelow}
use Rattle.test_walks.proofs.graph.GraphBackwardTransitions.entering.Given as goal

abbrev pub invariant-loop-class : goal.invariant-loop-class
invariant-loop-class l = AreEnteringBelow l.self l.class l.abstract_state l.transitions.items
