use Rattle.std.proofs.Common.{◌≡◌, ◌+◌, ◌*◌, ◌^◌, ◌<◌, List, [], drop, get_or, sym, ap, ◌∙◌, arith}
use Rattle.abstraction.specs.declared.digit.Digit.{Digit}
use Rattle.abstraction_groups.specs.declared.change.Change.TheVariants.{Kept}
use Rattle.abstraction_groups.specs.declared.change.DigitChange.{DigitChange}
use Rattle.abstraction_groups.specs.Changes.{at_digits}
use Rattle.abstraction_groups.specs.Pairs.{least_source, least_target}
use Rattle.abstraction_groups.proofs.RowSums.{at_end, row_below, source_step, target_step}
use Rattle.abstraction_groups.proofs.PairLaws.{entry_same}
use Rattle.abstraction_groups.proofs.pairs.first_entry.Goals as goal

abbrev none : Digit
none = record { weight = 0; range = 0 }

pub overflow_mul-source : goal.overflow_mul-source
overflow_mul-source c =
    let ds = c.args.digits.now in
    let cs = c.args.changes.now in
    let i = c.loop-place.place in
    let step = source_step ds cs c.requires.long c.requires.row i none Kept (omega arith) c.loop-place.source c.loop-place.invariant.sources in
    let small : c.loop-place.source + c.least_before.result * (get_or ds i none).weight < 2 ^ 24 = rw c.least_before.ensures step.0 in
    omega arith

pub overflow_add-source : goal.overflow_add-source
overflow_add-source c =
    let ds = c.args.digits.now in
    let cs = c.args.changes.now in
    let i = c.loop-place.place in
    let step = source_step ds cs c.requires.long c.requires.row i none Kept (omega arith) c.loop-place.source c.loop-place.invariant.sources in
    let small : c.loop-place.source + c.least_before.result * (get_or ds i none).weight < 2 ^ 24 = rw c.least_before.ensures step.0 in
    omega arith

pub overflow_mul-target : goal.overflow_mul-target
overflow_mul-target c =
    let ds = c.args.digits.now in
    let cs = c.args.changes.now in
    let i = c.loop-place.place in
    let step = target_step ds cs c.requires.long c.requires.row i none Kept (omega arith) c.loop-place.target c.loop-place.invariant.targets in
    let small : c.loop-place.target + c.least_after.result * (get_or ds i none).weight < 2 ^ 24 = rw c.least_after.ensures step.0 in
    omega arith

pub overflow_add-target : goal.overflow_add-target
overflow_add-target c =
    let ds = c.args.digits.now in
    let cs = c.args.changes.now in
    let i = c.loop-place.place in
    let step = target_step ds cs c.requires.long c.requires.row i none Kept (omega arith) c.loop-place.target c.loop-place.invariant.targets in
    let small : c.loop-place.target + c.least_after.result * (get_or ds i none).weight < 2 ^ 24 = rw c.least_after.ensures step.0 in
    omega arith

pub loop-place-preserved : goal.loop-place-preserved
loop-place-preserved c =
    let ds = c.args.digits.now in
    let cs = c.args.changes.now in
    let i = c.loop-place.place in
    record {
      sources = rw c.least_before.ensures (source_step ds cs c.requires.long c.requires.row i none Kept (omega arith) c.loop-place.source c.loop-place.invariant.sources).1;
      targets = rw c.least_after.ensures (target_step ds cs c.requires.long c.requires.row i none Kept (omega arith) c.loop-place.target c.loop-place.invariant.targets).1;
    }

pub overflow_cast-result : goal.overflow_cast-result
overflow_cast-result c =
    let below = (row_below (at_digits c.args.digits.now c.args.changes.now) c.requires.row).1 in
    let whole = c.loop-place.invariant.targets in
    omega arith

pub overflow_cast-result-2 : goal.overflow_cast-result-2
overflow_cast-result-2 c =
    let below = (row_below (at_digits c.args.digits.now c.args.changes.now) c.requires.row).0 in
    let whole = c.loop-place.invariant.sources in
    omega arith

pub returns : goal.returns
returns c =
    let row = at_digits c.args.digits.now c.args.changes.now in
    let end : drop c.loop-place.place row ≡ [] = at_end c.args.digits.now c.args.changes.now c.loop-place.place c.requires.long (omega arith) in
    let source : c.loop-place.source + 0 ≡ least_source row = ap (λ (xs : List DigitChange). c.loop-place.source + least_source xs) (sym end) ∙ c.loop-place.invariant.sources in
    let target : c.loop-place.target + 0 ≡ least_target row = ap (λ (xs : List DigitChange). c.loop-place.target + least_target xs) (sym end) ∙ c.loop-place.invariant.targets in
    entry_same c.loop-place.target (least_target row) c.args.class c.loop-place.source (least_source row) (omega arith) (omega arith)
