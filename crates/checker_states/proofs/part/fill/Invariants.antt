use Rattle.std.proofs.Common.{◌≡◌, ◌+◌, ◌≤◌, length}
use Rattle.slots.specs.Slots.{links_of, empties}
use Rattle.checker_states.specs.Indexes.{IndexesPart}
use Rattle.checker_states.proofs.part.fill.Given as goal

abbrev pub invariant-loop-place : goal.invariant-loop-place
invariant-loop-place l =
    record {
      size : length l.slots ≡ length l.fn.slots;
      width : length l.state ≡ length l.fn.state;
      empty : empties (links_of l.slots) ≡ l.room;
      room : length l.slots ≤ l.room + l.place;
      holds : IndexesPart l.parts l.part l.multipliers l.closed l.place l.slots;
    }
