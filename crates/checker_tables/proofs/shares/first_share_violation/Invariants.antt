use Rattle.std.proofs.Common.{ℕ, ◌<◌}
use Rattle.checker_tables.proofs.ShareViolations.{IsWithinAt}
use Rattle.checker_tables.proofs.shares.first_share_violation.Given as goal

abbrev pub invariant-loop-place : goal.invariant-loop-place
invariant-loop-place l = (k : ℕ) → k < l.place → IsWithinAt l.task l.certificate k
