use Rattle.std.proofs.Common.{sym, ◌∙◌}
use Rattle.sasfile_reader.proofs.Digits.{digit_more, digit_bad, digit_end, digits_some}
use Rattle.sasfile_reader.proofs.number.digits_of.Goals as goal

pub returns-then-not-is_digit : goal.returns-then-not-is_digit
returns-then-not-is_digit c =
    let some = digits_some c.args.digits.now (sym c.is_empty.ensures ∙ c.if-is_empty.false) in
    digit_bad c.loop-digit.value c.args.digits.now c.loop-digit.digit-index _ c.loop-digit-test.true (sym c.is_digit.ensures ∙ c.if-not-is_digit.true) (c.loop-digit.invariant ∙ some)

pub loop-digit-preserved : goal.loop-digit-preserved
loop-digit-preserved c =
    let more = digit_more c.loop-digit.value c.args.digits.now c.loop-digit.digit-index _ c.loop-digit-test.true (sym c.is_digit.ensures ∙ c.if-not-is_digit.false) c.loop-digit.invariant in
    rw (c.saturating_add-value.ensures, c.saturating_mul.ensures, c.from.ensures) more

pub returns : goal.returns
returns c =
    let some = digits_some c.args.digits.now (sym c.is_empty.ensures ∙ c.if-is_empty.false) in
    digit_end c.loop-digit.value c.args.digits.now c.loop-digit.digit-index _ c.loop-digit-test.false (c.loop-digit.invariant ∙ some)
