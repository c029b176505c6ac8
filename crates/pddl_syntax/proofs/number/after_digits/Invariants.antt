use Rattle.std.proofs.Common.{◌≡◌, ◌≤◌, drop}
use Rattle.pddl_syntax.specs.Numbers.{after_digits}
use Rattle.pddl_syntax.proofs.number.after_digits.Given as goal

abbrev pub invariant-loop-i : goal.invariant-loop-i
invariant-loop-i l = record {
  small : l.n ≤ 30000000000;
  same : after_digits l.fn.digits l.bytes ≡ after_digits l.n (drop l.i l.bytes);
}
