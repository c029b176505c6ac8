use Rattle.std.proofs.Common.{◌≡◌, drop}
use Rattle.optplan_plan_texts.specs.Bytes.{after_blanks}
use Rattle.optplan_plan_texts.proofs.bytes.after_blanks.Given as goal

abbrev pub invariant-loop-at : goal.invariant-loop-at
invariant-loop-at l = after_blanks (drop l.at l.bytes) ≡ after_blanks l.bytes
