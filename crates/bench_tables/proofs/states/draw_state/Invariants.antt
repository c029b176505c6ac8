use Rattle.std.proofs.Common.{◌≡◌, ℕ, ◌<◌, length, slice_index}
use Rattle.fdr.specs.Tasks.{ranges}
use Rattle.bench_tables.proofs.states.draw_state.Given as goal

abbrev pub invariant-loop-variable : goal.invariant-loop-variable
invariant-loop-variable l = record {
  as_long : length l.state.items ≡ l.variable;
  in_range : (v : ℕ) → v < l.variable → slice_index l.state.items v < slice_index (ranges l.task) v;
}
