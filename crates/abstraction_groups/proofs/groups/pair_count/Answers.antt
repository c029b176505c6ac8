use Rattle.std.proofs.Common.{◌≡◌, ◌*◌, ◌^◌, ◌≤◌, List, [], drop, sym, ap, ◌∙◌, arith}
use Rattle.abstraction.specs.declared.digit.Digit.{Digit}
use Rattle.abstraction_groups.specs.declared.change.Change.TheVariants.{Kept}
use Rattle.abstraction_groups.specs.declared.change.DigitChange.{DigitChange}
use Rattle.abstraction_groups.specs.Changes.{at_digits, pair_count}
use Rattle.abstraction_groups.proofs.RowSums.{at_end, count_within, count_step}
use Rattle.abstraction_groups.proofs.groups.pair_count.Goals as goal

abbrev none : Digit
none = record { weight = 0; range = 0 }

pub overflow_mul-count : goal.overflow_mul-count
overflow_mul-count c =
    let step = count_step c.args.digits.now c.args.changes.now c.requires.long c.requires.is_row c.loop-place.place none Kept (omega arith) c.loop-place.count c.loop-place.invariant in
    let small : c.loop-place.count * c.choices.result ≤ 2 ^ 24 = rw c.choices.ensures step.0 in
    omega arith

pub loop-place-preserved : goal.loop-place-preserved
loop-place-preserved c =
    let step = count_step c.args.digits.now c.args.changes.now c.requires.long c.requires.is_row c.loop-place.place none Kept (omega arith) c.loop-place.count c.loop-place.invariant in
    rw c.choices.ensures step.1

pub returns : goal.returns
returns c =
    let row = at_digits c.args.digits.now c.args.changes.now in
    let end : drop c.loop-place.place row ≡ [] = at_end c.args.digits.now c.args.changes.now c.loop-place.place c.requires.long (omega arith) in
    let whole : c.loop-place.count * 1 ≡ pair_count row = ap (λ (xs : List DigitChange). c.loop-place.count * pair_count xs) (sym end) ∙ c.loop-place.invariant in
    let within = count_within row c.requires.is_row.fit in
    let small = c.requires.is_row.small in
    record {
      value = omega arith;
      small = omega arith;
    }
