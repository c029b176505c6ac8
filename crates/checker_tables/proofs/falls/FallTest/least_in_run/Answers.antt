use Rattle.std.proofs.Common.{◌*◌, ◌+◌, ◌<◌, [], length, sym, ◌∙◌, arith}
use Rattle.checker_tables.specs.TableFaults.{is_fall_within}
use Rattle.checker_tables.proofs.FallLaws.{fall_by_values}
use Rattle.checker_tables.proofs.ReachLaws.{first_fits, one_more, rest_above, fails_here, passes_here}
use Rattle.checker_tables.proofs.falls.FallTest.least_in_run.Goals as goal

pub overflow_mul-state : goal.overflow_mul-state
overflow_mul-state c =
    let fits = first_fits c.args.digit [] c.args.source c.args.target (length c.args.self.now.values.now) (length c.args.self.now.nexts.now) c.loop-value.value c.requires c.loop-value-test.true in
    omega (arith, fits.0, c.args.self.now.few_values)

pub overflow_add-state : goal.overflow_add-state
overflow_add-state c =
    let fits = first_fits c.args.digit [] c.args.source c.args.target (length c.args.self.now.values.now) (length c.args.self.now.nexts.now) c.loop-value.value c.requires c.loop-value-test.true in
    omega (arith, fits.0, c.args.self.now.few_values)

pub overflow_mul-next : goal.overflow_mul-next
overflow_mul-next c =
    let fits = first_fits c.args.digit [] c.args.source c.args.target (length c.args.self.now.values.now) (length c.args.self.now.nexts.now) c.loop-value.value c.requires c.loop-value-test.true in
    omega (arith, fits.1, c.args.self.now.few_nexts)

pub overflow_add-next : goal.overflow_add-next
overflow_add-next c =
    let fits = first_fits c.args.digit [] c.args.source c.args.target (length c.args.self.now.values.now) (length c.args.self.now.nexts.now) c.loop-value.value c.requires c.loop-value-test.true in
    omega (arith, fits.1, c.args.self.now.few_nexts)

pub get-requires : goal.get-requires
get-requires c =
    (first_fits c.args.digit [] c.args.source c.args.target (length c.args.self.now.values.now) (length c.args.self.now.nexts.now) c.loop-value.value c.requires c.loop-value-test.true).0

pub get-requires-in-loop-value : goal.get-requires-in-loop-value
get-requires-in-loop-value c =
    (first_fits c.args.digit [] c.args.source c.args.target (length c.args.self.now.values.now) (length c.args.self.now.nexts.now) c.loop-value.value c.requires c.loop-value-test.true).1

pub returns-then-not-is_within : goal.returns-then-not-is_within
returns-then-not-is_within c =
    let test = is_fall_within c.args.self.now.values.now c.args.self.now.nexts.now c.args.self.now.share in
    let s = c.args.source in
    let t = c.args.target in
    let x = c.loop-value.value in
    let d = c.args.digit in
    let a = s + x * d.source in
    let b = t + x * d.target in
    let more = x + 1 in
    let l : x < d.range = c.loop-value-test.true in
    rest_above test d [] s t more c.args.limit a (omega (arith, l)) (omega arith)
    (one_more test d [] s t x c.args.limit c.args.limit a c.loop-value.invariant
    (fails_here test a b c.args.limit c.if-state-limit.false
    (fall_by_values c.args.self.now.values.now c.args.self.now.nexts.now a b c.args.self.now.share c.get.result c.get-in-loop-value.result c.get.ensures c.get-in-loop-value.ensures
    ∙ sym c.is_within.ensures ∙ c.if-not-is_within.true)))

pub loop-value-preserved : goal.loop-value-preserved
loop-value-preserved c =
    let test = is_fall_within c.args.self.now.values.now c.args.self.now.nexts.now c.args.self.now.share in
    let s = c.args.source in
    let t = c.args.target in
    let x = c.loop-value.value in
    let d = c.args.digit in
    let a = s + x * d.source in
    let b = t + x * d.target in
    one_more test d [] s t x c.args.limit c.args.limit c.args.limit c.loop-value.invariant
    (passes_here test a b c.args.limit
    (fall_by_values c.args.self.now.values.now c.args.self.now.nexts.now a b c.args.self.now.share c.get.result c.get-in-loop-value.result c.get.ensures c.get-in-loop-value.ensures
    ∙ sym c.is_within.ensures ∙ c.if-not-is_within.false))
