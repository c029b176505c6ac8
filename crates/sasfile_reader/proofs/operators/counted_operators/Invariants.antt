use Rattle.std.proofs.Common.{◌≡◌, ◌-◌, [], length}
use Rattle.sasfile_reader.specs.Remains.{remaining}
use Rattle.sasfile_reader.specs.Reading.{repeated, operator_step}
use Rattle.sasfile_reader.specs.Marks.{AreEarlier}
use Rattle.sasfile_reader.proofs.operators.counted_operators.Given as goal

abbrev pub invariant-loop : goal.invariant-loop
invariant-loop l =
    record {
      read : repeated (operator_step l.ranges) (l.count - l.counter) l.operators.items (remaining l.rest) ≡ repeated (operator_step l.ranges) l.count [] (remaining l.lines);
      marks : AreEarlier l.named l.rest.number;
      len : length l.named ≡ length l.ranges;
    }
