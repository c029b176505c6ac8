use Rattle.std.proofs.Common.{◌≡◌, ◌-◌, ◌≤◌, length}
use Rattle.sasfile_reader.specs.Remains.{remaining, halves}
use Rattle.sasfile_reader.specs.Reading.{repeated, change_step, is_named}
use Rattle.sasfile_reader.specs.Marks.{Marks}
use Rattle.sasfile_reader.proofs.effects.counted_changes.Given as goal

abbrev pub invariant-loop : goal.invariant-loop
invariant-loop l =
    record {
      read : repeated (change_step l.ranges) (l.count - l.counter) (halves l.kept) (remaining l.rest) ≡ repeated (change_step l.ranges) l.count (halves l.initial.kept) (remaining l.lines);
      marks : Marks l.named l.since l.rest.number (is_named (halves l.kept));
      later : l.since ≤ l.rest.number;
      len : length l.named ≡ length l.ranges;
    }
