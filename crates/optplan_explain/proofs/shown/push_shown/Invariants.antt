use Rattle.std.proofs.Common.{◌≡◌, ◌++◌, drop, map}
use Rattle.std.specs.String.{string_bytes}
use Rattle.optplan_explain.specs.Shown.{printable}
use Rattle.optplan_explain.proofs.shown.push_shown.Given as goal

abbrev pub invariant-loop-byte : goal.invariant-loop-byte
invariant-loop-byte l =
    string_bytes l.out ++ map printable (drop l.byte-index l.bytes) ≡ string_bytes l.fn.out ++ map printable l.bytes
