use Rattle.abstraction_listed.proofs.EntryLaws.{AreMade}
use Rattle.abstraction_listed.proofs.entries.entries_of.Given as goal

abbrev pub invariant-loop-class : goal.invariant-loop-class
invariant-loop-class g l = AreMade (g.A.Abstraction.abstraction l.abstraction) l.operators l.class l.entries.items
