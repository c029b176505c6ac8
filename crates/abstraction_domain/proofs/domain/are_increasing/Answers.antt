use Rattle.std.proofs.Common.{arith}
use Rattle.std.proofs.lemmas.Bool.{false≢true}
use Rattle.abstraction_domain.proofs.RowLaws.{not_increasing, increasing_more}
use Rattle.abstraction_domain.proofs.domain.are_increasing.Goals as goal

pub returns-then-variable : goal.returns-then-variable
returns-then-variable c = (
  λ h. absurd (false≢true h),
  λ increasing. absurd (not_increasing c.args.rows.now c.loop-place.place c.index-rows-place.result c.index-rows-place-in-loop-place.result (omega arith) c.loop-place-test.true
      c.index-rows-place.is c.index-rows-place-in-loop-place.is (omega (arith, c.if-variable.true, c.variable.ensures, c.variable-in-loop-place.ensures)) increasing),
)

pub loop-place-preserved : goal.loop-place-preserved
loop-place-preserved c =
    increasing_more c.args.rows.now c.loop-place.place c.index-rows-place.result c.index-rows-place-in-loop-place.result (omega arith) c.loop-place-test.true
    c.index-rows-place.is c.index-rows-place-in-loop-place.is (omega (arith, c.if-variable.false, c.variable.ensures, c.variable-in-loop-place.ensures)) c.loop-place.invariant
