use Rattle.pdb_refinement.proofs.Ordered.{AreOrderedBelow}
use Rattle.pdb_refinement.proofs.mappings.domains_of.Given as goal

abbrev pub invariant-loop-variable : goal.invariant-loop-variable
invariant-loop-variable l = AreOrderedBelow l.task l.limit l.rows l.variable l.size l.ordered.items
