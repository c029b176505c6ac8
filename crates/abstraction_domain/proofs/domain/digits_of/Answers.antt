use Rattle.std.proofs.Common.{◌<◌, length, sym}
use Rattle.std.proofs.lemmas.List.{length-map}
use Rattle.fdr.specs.Tasks.{ranges}
use Rattle.abstraction.proofs.PatternLaws.{too_large}
use Rattle.abstraction_domain.specs.Domains.{variables, class_counts}
use Rattle.abstraction_domain.proofs.RowLaws.{counts_positive, range_at, range_positive, product_positive, product_within, digits_step, size_step}
use Rattle.abstraction_domain.proofs.domain.digits_of.Goals as goal

pub returns-then-range-size-clause-fault : goal.returns-then-range-size-clause-fault
returns-then-range-size-clause-fault c =
    let among : c.loop-place.place < length (variables c.args.rows.now) = rw length-map c.loop-place-test.true in
    let range = range_at c.args.task.now c.args.rows.now c.requires.fit c.requires.increasing c.loop-place.place c.loop-place-test.true c.index-rows-place.result c.index-rows-place.is c.class_count-range.result c.class_count-range.ensures in (
      c.requires.fit,
      too_large (class_counts c.args.rows.now (ranges c.args.task.now)) (variables c.args.rows.now) c.loop-place.place c.loop-place.size c.class_count-range.result
          (counts_positive c.args.task.now c.args.rows.now c.requires.task c.requires.fit) among
          c.loop-place.invariant.some c.loop-place.invariant.size (sym range) c.if-range-size.true,
    )

pub loop-place-preserved : goal.loop-place-preserved
loop-place-preserved c =
    let counts = class_counts c.args.rows.now (ranges c.args.task.now) in
    let vs = variables c.args.rows.now in
    let among : c.loop-place.place < length (variables c.args.rows.now) = rw length-map c.loop-place-test.true in
    let range = range_at c.args.task.now c.args.rows.now c.requires.fit c.requires.increasing c.loop-place.place c.loop-place-test.true c.index-rows-place.result c.index-rows-place.is c.class_count-range.result c.class_count-range.ensures in
    let kept = rw c.if-is_err.false at c.is_err.ensures.negation in
    let pushed = rw kept at c.push.ensures.items in
    record {
      digits = rw pushed (digits_step counts vs c.loop-place.digits.items _ c.loop-place.size c.class_count-range.result c.loop-place.place among range c.loop-place.invariant.digits);
      size = size_step counts vs _ c.loop-place.size c.class_count-range.result c.loop-place.place among range c.loop-place.invariant.size;
      some = product_positive c.loop-place.size c.class_count-range.result c.loop-place.invariant.some
          (range_positive c.args.task.now c.args.rows.now c.requires.task c.requires.fit c.loop-place.place c.class_count-range.result c.loop-place-test.true range);
      small = product_within 16777216 c.loop-place.size c.class_count-range.result c.if-range-size.false;
    }
