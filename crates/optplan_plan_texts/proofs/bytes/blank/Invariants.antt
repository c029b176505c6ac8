use Rattle.std.proofs.Common.{◌≡◌, ◌++◌, take, drop, map}
use Rattle.optplan_plan_texts.specs.Bytes.{blanked_byte}
use Rattle.optplan_plan_texts.proofs.bytes.blank.Given as goal

abbrev pub invariant-loop-byte : goal.invariant-loop-byte
invariant-loop-byte l = l.bytes ≡ map blanked_byte (take l.byte-index l.initial.bytes) ++ drop l.byte-index l.initial.bytes
