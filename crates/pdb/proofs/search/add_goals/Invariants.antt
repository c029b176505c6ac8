use Rattle.pdb.specs.Searches.{IsStart}
use Rattle.pdb.proofs.search.add_goals.Given as goal

abbrev pub invariant-loop-state : goal.invariant-loop-state
invariant-loop-state g l = IsStart (g.A.Abstraction.abstraction l.abstraction) l.values l.queue l.state
