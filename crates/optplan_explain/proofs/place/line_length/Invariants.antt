use Rattle.std.proofs.Common.{◌≡◌, ◌+◌, drop}
use Rattle.std.specs.List.{prefix_len}
use Rattle.optplan_explain.specs.Places.{is_in_line}
use Rattle.optplan_explain.proofs.place.line_length.Given as goal

abbrev pub invariant-loop-i : goal.invariant-loop-i
invariant-loop-i l = prefix_len is_in_line l.text ≡ l.i + prefix_len is_in_line (drop l.i l.text)
