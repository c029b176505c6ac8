use Rattle.std.proofs.Common.{◌≡◌, ◌++◌, take, drop}
use Rattle.optplan_plan_texts.specs.Bytes.{digits, after_digits}
use Rattle.optplan_plan_texts.proofs.bytes.split_digits.Given as goal

abbrev pub invariant-loop-at : goal.invariant-loop-at
invariant-loop-at l =
    record {
      digits : take l.at l.bytes ++ digits (drop l.at l.bytes) ≡ digits l.bytes;
      rest : after_digits (drop l.at l.bytes) ≡ after_digits l.bytes;
    }
