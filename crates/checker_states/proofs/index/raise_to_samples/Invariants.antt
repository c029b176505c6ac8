use Rattle.std.proofs.Common.{◌≡◌, ◌-◌, length}
use Rattle.checker_states.proofs.index.raise_to_samples.Given as goal

abbrev pub invariant-loop-place : goal.invariant-loop-place
invariant-loop-place l =
    record {
      greatest : length l.greatest ≡ length l.fn.greatest;
      width : length l.state ≡ length l.fn.state;
    }

abbrev pub decreases-loop-place : goal.decreases-loop-place
decreases-loop-place l = length l.closed - l.place
