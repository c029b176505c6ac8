use Rattle.pdb.specs.Classes.{share_by}
use Rattle.pdb.specs.Searches.{IsSearch, work}
use Rattle.pdb.proofs.search.settle.Given as goal

abbrev pub invariant-loop-entry : goal.invariant-loop-entry
invariant-loop-entry g l = IsSearch (g.T.BackwardTransitions.abstraction l.transitions) (share_by (g.T.BackwardTransitions.classes l.transitions) l.least) l.values l.queue

abbrev pub decreases-loop-entry : goal.decreases-loop-entry
decreases-loop-entry g l = work l.values l.queue
