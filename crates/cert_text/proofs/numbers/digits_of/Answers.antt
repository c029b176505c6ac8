use Rattle.std.proofs.Common.{arith}
use Rattle.cert_text.proofs.NumberLaws.{digit_step, digits_done}
use Rattle.cert_text.proofs.numbers.digits_of.Goals as goal

pub loop-digit-preserved : goal.loop-digit-preserved
loop-digit-preserved c =
    let h = c.saturating_add-value.ensures in let k = c.saturating_mul.ensures in let f = c.from.ensures in (
      c.saturating_add-value.type_inv,
      digit_step c.args.digits.now c.loop-digit.digit-index c.loop-digit.value c.saturating_add-value.result _ c.loop-digit-test.true (omega arith) (omega arith) (omega arith) c.loop-digit.invariant.1,
    )

pub returns : goal.returns
returns c = digits_done c.args.digits.now c.loop-digit.digit-index c.loop-digit.value _ c.loop-digit-test.false c.loop-digit.invariant.0 c.loop-digit.invariant.1
