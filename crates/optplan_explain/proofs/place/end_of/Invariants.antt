use Rattle.std.proofs.Common.{◌≡◌, ◌+◌, ◌≤◌, take}
use Rattle.std.specs.Prelude.{count_by}
use Rattle.std.specs.List.{suffix_len}
use Rattle.optplan_explain.specs.Places.{is_line_feed, is_in_line}
use Rattle.optplan_explain.proofs.place.end_of.Given as goal

abbrev pub invariant-loop-byte : goal.invariant-loop-byte
invariant-loop-byte l = record {
  lines : l.line ≡ 1 + count_by is_line_feed (take l.byte-index l.text);
  columns : l.column ≡ 1 + suffix_len is_in_line (take l.byte-index l.text);
  small : l.column ≤ l.byte-index + 1;
}
