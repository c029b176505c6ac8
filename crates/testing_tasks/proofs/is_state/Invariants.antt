use Rattle.std.proofs.Common.{ℕ, ◌<◌, slice_index}
use Rattle.testing_tasks.proofs.is_state.Given as goal

abbrev pub invariant-loop-variable : goal.invariant-loop-variable
invariant-loop-variable l = (v : ℕ) → v < l.variable → slice_index l.state v < slice_index l.ranges v
