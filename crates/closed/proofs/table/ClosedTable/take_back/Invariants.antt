use Rattle.std.proofs.Common.{◌≡◌, vec_len}
use Rattle.closed.specs.Entries.{taken_back}
use Rattle.closed.proofs.table.ClosedTable.take_back.Given as goal

abbrev pub invariant-loop-index : goal.invariant-loop-index
invariant-loop-index g l = record {
  nodes : taken_back l.replaced.items l.self.nodes ≡ taken_back l.initial.replaced.items l.initial.self.nodes;
  ever : l.self.ever ≡ l.initial.self.ever;
  ranges : l.self.ranges ≡ l.initial.self.ranges;
}

abbrev pub decreases-loop-index : goal.decreases-loop-index
decreases-loop-index g l = vec_len l.replaced
