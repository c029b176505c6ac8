use Rattle.std.proofs.Common.{◌≡◌, length, None}
use Rattle.checker_pieces.specs.Pieces.{IsFirstIn}
use Rattle.checker_states.specs.Places.{says_state}
use Rattle.checker_states.proofs.states.first_failing.Given as goal

abbrev pub invariant-loop-place : goal.invariant-loop-place
invariant-loop-place l =
    record {
      passed : IsFirstIn (says_state l.task l.certificate) l.start l.place None;
      state : length l.state ≡ length l.fn.state;
      before : length l.before ≡ length l.fn.before;
    }
