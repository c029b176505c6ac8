use Rattle.std.proofs.Common.{◌∙◌, sym, arith}
use Rattle.pddl_syntax.proofs.Digits.{goes_on, goes_past}
use Rattle.pddl_syntax.proofs.number.after_digits.Goals as goal
use Rattle.pddl_syntax.proofs.number.after_digits.Goals.{then-n-le-MAX_NUMBER, else-n-le-MAX_NUMBER}

pub loop-i-preserved : goal.loop-i-preserved
loop-i-preserved c =
    let n = c.loop-i.n in let i = c.loop-i.i in let bytes = c.args.bytes.now in
    elim c.if-n-le-MAX_NUMBER.branch [
      | then-n-le-MAX_NUMBER w ↦ record {
        small = omega (arith, w.n-is, w.from.ensures, c.type_inv.bytes c.loop-i.i, w.if-n-le-MAX_NUMBER.true);
        same = c.loop-i.invariant.same ∙ goes_on n i c.if-n-le-MAX_NUMBER.n bytes c.loop-i-test.true (sym c.is_digit.ensures ∙ c.if-is_digit.true) (omega (arith, w.n-is, w.from.ensures));
      }
      | else-n-le-MAX_NUMBER w ↦ record {
        small = omega arith;
        same = c.loop-i.invariant.same ∙ goes_past n c.if-n-le-MAX_NUMBER.n i bytes c.loop-i-test.true (sym c.is_digit.ensures ∙ c.if-is_digit.true) w.n-is (omega (arith, w.if-n-le-MAX_NUMBER.false));
      }
    ]
