use Rattle.std.proofs.Common.{◌≡◌, length, arith}
use Rattle.std.specs.Prelude.{slice_index, slice_index_or}
use Rattle.std.proofs.lemmas.List.{length-map, get_or_default}
use Rattle.fdr.specs.Tasks.{ranges}
use Rattle.abstraction.specs.declared.digit.Digit.{Digit}
use Rattle.abstraction.proofs.PatternLaws.{length-digits_from}
use Rattle.abstraction_domain.specs.Rows.{Row}
use Rattle.abstraction_domain.specs.Domains.{variables, class_counts}
use Rattle.abstraction_domain.proofs.RowLaws.{class_more}
use Rattle.abstraction_domain.proofs.domain.class_index.Goals as goal

pub bounds-digits-place : goal.bounds-digits-place
bounds-digits-place c =
    let as_long : length c.args.digits.now ≡ length (variables c.args.rows.now) = rw c.requires.digits (length-digits_from (class_counts c.args.rows.now (ranges c.args.task.now)) (variables c.args.rows.now) 1) in
    let rows : length (variables c.args.rows.now) ≡ length c.args.rows.now = length-map c.args.rows.now (λ (r : Row). r.variable) in
    omega (arith, c.loop-place-test.true, as_long, rows)

pub overflow_mul-index : goal.overflow_mul-index
overflow_mul-index c =
    let as_long : length c.args.digits.now ≡ length (variables c.args.rows.now) = rw c.requires.digits (length-digits_from (class_counts c.args.rows.now (ranges c.args.task.now)) (variables c.args.rows.now) 1) in
    let rows : length (variables c.args.rows.now) ≡ length c.args.rows.now = length-map c.args.rows.now (λ (r : Row). r.variable) in
    let none : Digit = record { weight = 0; range = 0 } in
    let digit : Digit = slice_index_or c.args.digits.now c.loop-place.place none in
    let class : c.class.result ≡ slice_index c.index-rows-place.result.classes (slice_index c.args.state.now c.index-rows-place.result.variable) = rw c.variable.ensures at c.class.ensures in
    let more = class_more c.args.task.now c.requires.task c.args.rows.now c.requires.fit c.requires.increasing c.args.digits.now c.requires.digits c.loop-place.place c.loop-place-test.true
    c.index-rows-place.result c.index-rows-place.is digit (get_or_default c.args.digits.now c.loop-place.place none digit (omega (arith, c.loop-place-test.true, as_long, rows))) c.args.state.now c.requires.state c.class.result class c.requires.small in
    omega (arith, more.0, more.1, more.2)

pub overflow_add-index : goal.overflow_add-index
overflow_add-index c =
    let as_long : length c.args.digits.now ≡ length (variables c.args.rows.now) = rw c.requires.digits (length-digits_from (class_counts c.args.rows.now (ranges c.args.task.now)) (variables c.args.rows.now) 1) in
    let rows : length (variables c.args.rows.now) ≡ length c.args.rows.now = length-map c.args.rows.now (λ (r : Row). r.variable) in
    let none : Digit = record { weight = 0; range = 0 } in
    let digit : Digit = slice_index_or c.args.digits.now c.loop-place.place none in
    let class : c.class.result ≡ slice_index c.index-rows-place.result.classes (slice_index c.args.state.now c.index-rows-place.result.variable) = rw c.variable.ensures at c.class.ensures in
    let more = class_more c.args.task.now c.requires.task c.args.rows.now c.requires.fit c.requires.increasing c.args.digits.now c.requires.digits c.loop-place.place c.loop-place-test.true
    c.index-rows-place.result c.index-rows-place.is digit (get_or_default c.args.digits.now c.loop-place.place none digit (omega (arith, c.loop-place-test.true, as_long, rows))) c.args.state.now c.requires.state c.class.result class c.requires.small in
    omega (arith, c.loop-place.invariant.index, more.0, more.1, more.2)

pub loop-place-preserved : goal.loop-place-preserved
loop-place-preserved c =
    let as_long : length c.args.digits.now ≡ length (variables c.args.rows.now) = rw c.requires.digits (length-digits_from (class_counts c.args.rows.now (ranges c.args.task.now)) (variables c.args.rows.now) 1) in
    let rows : length (variables c.args.rows.now) ≡ length c.args.rows.now = length-map c.args.rows.now (λ (r : Row). r.variable) in
    let none : Digit = record { weight = 0; range = 0 } in
    let digit : Digit = slice_index_or c.args.digits.now c.loop-place.place none in
    let class : c.class.result ≡ slice_index c.index-rows-place.result.classes (slice_index c.args.state.now c.index-rows-place.result.variable) = rw c.variable.ensures at c.class.ensures in
    let more = class_more c.args.task.now c.requires.task c.args.rows.now c.requires.fit c.requires.increasing c.args.digits.now c.requires.digits c.loop-place.place c.loop-place-test.true
    c.index-rows-place.result c.index-rows-place.is digit (get_or_default c.args.digits.now c.loop-place.place none digit (omega (arith, c.loop-place-test.true, as_long, rows))) c.args.state.now c.requires.state c.class.result class c.requires.small in
    record {
      index = omega (arith, c.loop-place.invariant.index, more.0);
      below = omega (arith, c.loop-place.invariant.index, more.0, more.1);
    }
