use Rattle.std.proofs.Common.{◌≡◌, ◌≤◌, ◌++◌, length, take, drop, map, fold}
use Rattle.closed.specs.Tables.{padded, reached, outcomes_of, arrival}
use Rattle.closed.specs.Entries.{taken_back}
use Rattle.closed.proofs.table.ClosedTable.reach_all.Given as goal

abbrev pub invariant-loop-place : goal.invariant-loop-place
invariant-loop-place g l = record {
  nodes : fold reached l.self.nodes (map (arrival (g.F.StateForm.values l.initial.self.ranges)) (drop l.place l.messages))
      ≡ fold reached l.initial.self.nodes (map (arrival (g.F.StateForm.values l.initial.self.ranges)) l.messages);
  outcomes : l.outcomes.items ++ outcomes_of l.self.nodes (map (arrival (g.F.StateForm.values l.initial.self.ranges)) (drop l.place l.messages))
      ≡ outcomes_of l.initial.self.nodes (map (arrival (g.F.StateForm.values l.initial.self.ranges)) l.messages);
  ranges : l.self.ranges ≡ l.initial.self.ranges;
  ever : l.self.ever ≡ padded l.initial.self.ever (length l.self.nodes);
  no_fewer : length l.initial.self.nodes ≤ length l.self.nodes;
  taken_back : taken_back l.replaced.items (take (length l.initial.self.nodes) l.self.nodes) ≡ l.initial.self.nodes;
}
