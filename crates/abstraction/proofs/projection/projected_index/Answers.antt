use Rattle.std.proofs.Common.{◌≡◌, length, arith}
use Rattle.std.specs.Prelude.{slice_index, slice_index_or}
use Rattle.std.proofs.lemmas.List.{get_or_default}
use Rattle.fdr.specs.Tasks.{ranges}
use Rattle.abstraction.specs.declared.digit.Digit.{Digit}
use Rattle.abstraction.proofs.PatternLaws.{length-digits_from, index_step, index_fits, ranges_positive}
use Rattle.abstraction.proofs.projection.projected_index.Goals as goal

pub bounds-digits-place : goal.bounds-digits-place
bounds-digits-place c =
    let as_long : length c.args.digits.now ≡ length c.args.pattern.now = rw c.requires.digits (length-digits_from (ranges c.args.task.now) c.args.pattern.now 1) in
    omega (arith, c.loop-place-test.true, as_long)

pub overflow_mul-index : goal.overflow_mul-index
overflow_mul-index c =
    let as_long : length c.args.digits.now ≡ length c.args.pattern.now = rw c.requires.digits (length-digits_from (ranges c.args.task.now) c.args.pattern.now 1) in
    let none : Digit = record { weight = 0; range = 0 } in
    let digit : Digit = slice_index_or c.args.digits.now c.loop-place.place none in
    let step = index_step (ranges c.args.task.now) c.args.pattern.now c.args.digits.now c.requires.digits c.loop-place.place c.loop-place-test.true digit (get_or_default c.args.digits.now c.loop-place.place none digit (omega (arith, c.loop-place-test.true, as_long))) c.args.state.now (slice_index c.args.pattern.now c.loop-place.place) (get_or_default c.args.pattern.now c.loop-place.place 0 (slice_index c.args.pattern.now c.loop-place.place) c.loop-place-test.true) in
    let fits = index_fits (ranges c.args.task.now) c.args.pattern.now c.args.digits.now c.requires.digits c.loop-place.place c.loop-place-test.true digit (get_or_default c.args.digits.now c.loop-place.place none digit (omega (arith, c.loop-place-test.true, as_long))) c.args.state.now (slice_index c.args.pattern.now c.loop-place.place) (get_or_default c.args.pattern.now c.loop-place.place 0 (slice_index c.args.pattern.now c.loop-place.place) c.loop-place-test.true)
    c.requires.state c.requires.exist (ranges_positive c.args.task.now c.args.pattern.now c.requires.task c.requires.exist) c.requires.small in
    omega (arith, step, fits.0, fits.1)

pub overflow_add-index : goal.overflow_add-index
overflow_add-index c =
    let as_long : length c.args.digits.now ≡ length c.args.pattern.now = rw c.requires.digits (length-digits_from (ranges c.args.task.now) c.args.pattern.now 1) in
    let none : Digit = record { weight = 0; range = 0 } in
    let digit : Digit = slice_index_or c.args.digits.now c.loop-place.place none in
    let step = index_step (ranges c.args.task.now) c.args.pattern.now c.args.digits.now c.requires.digits c.loop-place.place c.loop-place-test.true digit (get_or_default c.args.digits.now c.loop-place.place none digit (omega (arith, c.loop-place-test.true, as_long))) c.args.state.now (slice_index c.args.pattern.now c.loop-place.place) (get_or_default c.args.pattern.now c.loop-place.place 0 (slice_index c.args.pattern.now c.loop-place.place) c.loop-place-test.true) in
    let fits = index_fits (ranges c.args.task.now) c.args.pattern.now c.args.digits.now c.requires.digits c.loop-place.place c.loop-place-test.true digit (get_or_default c.args.digits.now c.loop-place.place none digit (omega (arith, c.loop-place-test.true, as_long))) c.args.state.now (slice_index c.args.pattern.now c.loop-place.place) (get_or_default c.args.pattern.now c.loop-place.place 0 (slice_index c.args.pattern.now c.loop-place.place) c.loop-place-test.true)
    c.requires.state c.requires.exist (ranges_positive c.args.task.now c.args.pattern.now c.requires.task c.requires.exist) c.requires.small in
    omega (arith, c.loop-place.invariant.index, step, fits.0, fits.1)

pub loop-place-preserved : goal.loop-place-preserved
loop-place-preserved c =
    let as_long : length c.args.digits.now ≡ length c.args.pattern.now = rw c.requires.digits (length-digits_from (ranges c.args.task.now) c.args.pattern.now 1) in
    let none : Digit = record { weight = 0; range = 0 } in
    let digit : Digit = slice_index_or c.args.digits.now c.loop-place.place none in
    let step = index_step (ranges c.args.task.now) c.args.pattern.now c.args.digits.now c.requires.digits c.loop-place.place c.loop-place-test.true digit (get_or_default c.args.digits.now c.loop-place.place none digit (omega (arith, c.loop-place-test.true, as_long))) c.args.state.now (slice_index c.args.pattern.now c.loop-place.place) (get_or_default c.args.pattern.now c.loop-place.place 0 (slice_index c.args.pattern.now c.loop-place.place) c.loop-place-test.true) in
    let fits = index_fits (ranges c.args.task.now) c.args.pattern.now c.args.digits.now c.requires.digits c.loop-place.place c.loop-place-test.true digit (get_or_default c.args.digits.now c.loop-place.place none digit (omega (arith, c.loop-place-test.true, as_long))) c.args.state.now (slice_index c.args.pattern.now c.loop-place.place) (get_or_default c.args.pattern.now c.loop-place.place 0 (slice_index c.args.pattern.now c.loop-place.place) c.loop-place-test.true)
    c.requires.state c.requires.exist (ranges_positive c.args.task.now c.args.pattern.now c.requires.task c.requires.exist) c.requires.small in
    record {
      index = omega (arith, c.loop-place.invariant.index, step);
      below = omega (arith, c.loop-place.invariant.index, step, fits.0);
    }
