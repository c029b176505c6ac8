use Rattle.std.proofs.Common.{◌≡◌, length}
use Rattle.std.specs.Prelude.{None}
use Rattle.checker_pieces.specs.Pieces.{IsFirstIn}
use Rattle.checker_states.specs.Places.{says_successor}
use Rattle.checker_states.proofs.coverage.Coverage.first_failing_between.Given as goal

abbrev pub invariant-loop-place : goal.invariant-loop-place
invariant-loop-place l =
    record {
      passed : IsFirstIn (says_successor l.self.task l.self.certificate) l.start l.place None;
      width : length l.state ≡ length l.fn.state;
    }
