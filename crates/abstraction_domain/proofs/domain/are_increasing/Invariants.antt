use Rattle.std.proofs.Common.{ℕ, ◌+◌, ◌<◌, slice_index}
use Rattle.abstraction_domain.specs.Domains.{variables}
use Rattle.abstraction_domain.proofs.domain.are_increasing.Given as goal

abbrev pub invariant-loop-place : goal.invariant-loop-place
invariant-loop-place l = (k : ℕ) → k + 1 < l.place → slice_index (variables l.rows) k < slice_index (variables l.rows) (k + 1)
