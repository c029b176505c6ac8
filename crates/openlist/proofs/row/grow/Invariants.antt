use Rattle.std.proofs.Common.{◌+◌, ◌-◌, ◌≤◌, max, vec_len}
use Rattle.openlist.specs.BucketLists.{HasSameEntries, KeepsRoom, row_of, spares_of}
use Rattle.openlist.proofs.row.grow.Given as goal

abbrev pub invariant-loop-alloc : goal.invariant-loop-alloc
invariant-loop-alloc l = record {
  entries : HasSameEntries (row_of l.initial.row.items) (row_of l.row.items);
  room : KeepsRoom (spares_of l.initial.row.items) (spares_of l.row.items);
  len : vec_len l.initial.row ≤ vec_len l.row;
  bound : vec_len l.row ≤ max (vec_len l.initial.row) (l.place + 1);
}

abbrev pub decreases-loop-alloc : goal.decreases-loop-alloc
decreases-loop-alloc l = l.place + 1 - vec_len l.row
