use Rattle.std.proofs.Common.{◌≡◌, ◌+◌, length, take}
use Rattle.slots.specs.Slots.{links_of, empties}
use Rattle.closed.specs.Rows.{IsAmongFirst, Holds}
use Rattle.closed.proofs.index.add_taken.Given as goal

abbrev pub invariant-loop-slot : goal.invariant-loop-slot
invariant-loop-slot l = record {
  count : empties (links_of l.slots) + l.slot-index ≡ length l.fn.slots + empties (take l.slot-index (links_of l.taken));
  holds : Holds (IsAmongFirst l.slot-index l.taken) l.slots;
}
