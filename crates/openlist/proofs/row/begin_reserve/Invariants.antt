use Rattle.std.proofs.Common.{◌≤◌, take, vec_len}
use Rattle.openlist.specs.declared.row.TheConstants.{FAR}
use Rattle.openlist.specs.BucketLists.{HasBuckets, HasSameEntries, row_of}
use Rattle.openlist.proofs.row.begin_reserve.Given as goal

abbrev pub invariant-loop-f : goal.invariant-loop-f
invariant-loop-f l = record {
  entries : HasSameEntries (row_of l.initial.row.items) (row_of l.row.items);
  bound : vec_len l.row ≤ FAR;
  long : HasBuckets (take l.f-index l.fs) (vec_len l.row);
}
