use Rattle.abstraction_listed.specs.Entries.{AreAppended}
use Rattle.abstraction_listed.proofs.entries.append_transitions.Given as goal

abbrev pub invariant-loop-state : goal.invariant-loop-state
invariant-loop-state g l =
    AreAppended (g.A.Abstraction.abstraction l.abstraction) l.operator l.class l.state l.fn.entries.items l.entries.items
