use Rattle.test_walks.specs.Graphs.{HasEntering}
use Rattle.test_walks.proofs.graph.Graph.add_entering.Given as goal

abbrev pub invariant-loop-source : goal.invariant-loop-source
invariant-loop-source l = HasEntering l.self l.class l.source l.abstract_state l.initial.transitions.items l.transitions.items
