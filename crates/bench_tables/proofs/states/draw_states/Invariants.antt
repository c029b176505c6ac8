use Rattle.std.proofs.Common.{◌≡◌, length, All}
use Rattle.fdr.specs.Tasks.{ranges, IsState}
use Rattle.bench_tables.proofs.states.draw_states.Given as goal

abbrev pub invariant-loop : goal.invariant-loop
invariant-loop l = record {
  len : length l.states.items ≡ l.counter;
  states : All (λ state. IsState (ranges l.task) state.items) l.states.items;
}
