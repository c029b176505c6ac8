use Rattle.std.proofs.Common.{◌≡◌, length}
use Rattle.test_walks.proofs.random_graphs.bellman_ford.Given as goal

abbrev pub invariant-loop-state : goal.invariant-loop-state
invariant-loop-state l = length l.values.items ≡ l.state

abbrev pub invariant-loop : goal.invariant-loop
invariant-loop l = length l.values.items ≡ length l.graph.goals
