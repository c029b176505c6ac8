use Rattle.std.proofs.Common.{◌≡◌, map, take, vec_len}
use Rattle.openlist.specs.BucketLists.{HasRoomNear, row_of, spares_of}
use Rattle.openlist.proofs.row.reserve_near.Given as goal

abbrev pub invariant-loop-f : goal.invariant-loop-f
invariant-loop-f l = record {
  entries : row_of l.row.items ≡ row_of l.initial.row.items;
  len : vec_len l.row ≡ vec_len l.initial.row;
  asked : HasRoomNear (map (λ b. b.asked) l.row.items) (take l.f-index l.fs);
  room : HasRoomNear (spares_of l.row.items) (take l.f-index l.fs);
}
