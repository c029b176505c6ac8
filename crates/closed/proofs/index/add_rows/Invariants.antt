use Rattle.std.proofs.Common.{◌≡◌, ◌+◌, length}
use Rattle.slots.specs.Slots.{links_of, empties}
use Rattle.closed.specs.Rows.{tags_of, Holds}
use Rattle.closed.proofs.Holding.{IsTagBelow}
use Rattle.closed.proofs.index.add_rows.Given as goal

abbrev pub invariant-loop-place : goal.invariant-loop-place
invariant-loop-place g l = record {
  count : empties (links_of l.slots) + l.place ≡ length l.fn.slots;
  holds : Holds (IsTagBelow l.place (tags_of g.F.Hash.hash_input l.rows)) l.slots;
}
