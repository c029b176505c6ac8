use Rattle.std.proofs.Common.{◌≡◌, ◌-◌, drop}
use Rattle.optplan_explain.specs.Places.{after_lines}
use Rattle.optplan_explain.proofs.place.from_line.Given as goal

abbrev pub invariant-loop-i : goal.invariant-loop-i
invariant-loop-i l = after_lines l.left (drop l.i l.text) ≡ after_lines (l.number - 1) l.text
