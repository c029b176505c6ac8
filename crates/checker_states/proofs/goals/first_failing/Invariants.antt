use Rattle.std.proofs.Common.{◌≡◌, length, None}
use Rattle.checker_pieces.specs.Pieces.{IsFirstIn}
use Rattle.checker_states.specs.Places.{says_goal}
use Rattle.checker_states.proofs.goals.first_failing.Given as goal

abbrev pub invariant-loop-place : goal.invariant-loop-place
invariant-loop-place l =
    record {
      passed : IsFirstIn (says_goal l.task l.certificate) l.start l.place None;
      width : length l.state ≡ length l.fn.state;
    }
