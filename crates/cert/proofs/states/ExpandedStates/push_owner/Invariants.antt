use Rattle.std.proofs.Common.{length}
use Rattle.cert.specs.Expanded.{listed}
use Rattle.cert.proofs.ExpandedLists.{AreAdded}
use Rattle.cert.proofs.states.ExpandedStates.push_owner.Given as goal

abbrev pub invariant-loop-index : goal.invariant-loop-index
invariant-loop-index g l = AreAdded (length l.fn.state) l.owner.nodes (listed (length l.fn.state) l.fn.self) l.index l.self.costs.items l.self.values.items
