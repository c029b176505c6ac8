use Rattle.std.proofs.Common.{List, length, sym, arith, subst}
use Rattle.checker_tables.specs.declared.moves.FreeDigit.{FreeDigit}
use Rattle.checker_tables.specs.Moves.{StaysBelow, IsLeast}
use Rattle.checker_tables.specs.TableFaults.{is_fall_within}
use Rattle.checker_tables.proofs.ReachLaws.{first_fits, rest_stays, one_more, rest_above, without_digit, once_stays, is_nothing}
use Rattle.checker_tables.proofs.falls.FallTest.+least.Goals as goal

pub least_in_run-requires : goal.least_in_run-requires
least_in_run-requires t c =
    let m = length c.args.self.now.values.now in
    let n = length c.args.self.now.nexts.now in
    once_stays c.args.source c.args.target m n
    (subst (λ (ds : List FreeDigit). StaysBelow ds c.args.source c.args.target m n) (is_nothing c.args.free.now c.in_default.ensures.cases) c.requires)

pub returns-in_default : goal.returns-in_default
returns-in_default t c =
    let test = is_fall_within c.args.self.now.values.now c.args.self.now.nexts.now c.args.self.now.share in
    subst (λ (ds : List FreeDigit). IsLeast test ds c.args.source c.args.target c.args.limit c.least_in_run.result) (sym (is_nothing c.args.free.now c.in_default.ensures.cases))
    (without_digit test c.args.source c.args.target c.args.limit c.least_in_run.result c.least_in_run.ensures)

pub overflow_mul-first : goal.overflow_mul-first
overflow_mul-first t c =
    let m = length c.args.self.now.values.now in
    let n = length c.args.self.now.nexts.now in
    let stays = subst (λ (ds : List FreeDigit). StaysBelow ds c.args.source c.args.target m n) c.in-Some.ensures.cases.0 c.requires in
    let fits = first_fits c.in-Some.digit.now c.in-Some.rest.now c.args.source c.args.target m n c.loop-value.value stays c.loop-value-test.true in
    omega (arith, fits.0, c.args.self.now.few_values)

pub overflow_add-first : goal.overflow_add-first
overflow_add-first t c =
    let m = length c.args.self.now.values.now in
    let n = length c.args.self.now.nexts.now in
    let stays = subst (λ (ds : List FreeDigit). StaysBelow ds c.args.source c.args.target m n) c.in-Some.ensures.cases.0 c.requires in
    let fits = first_fits c.in-Some.digit.now c.in-Some.rest.now c.args.source c.args.target m n c.loop-value.value stays c.loop-value-test.true in
    omega (arith, fits.0, c.args.self.now.few_values)

pub overflow_mul-value : goal.overflow_mul-value
overflow_mul-value t c =
    let m = length c.args.self.now.values.now in
    let n = length c.args.self.now.nexts.now in
    let stays = subst (λ (ds : List FreeDigit). StaysBelow ds c.args.source c.args.target m n) c.in-Some.ensures.cases.0 c.requires in
    let fits = first_fits c.in-Some.digit.now c.in-Some.rest.now c.args.source c.args.target m n c.loop-value.value stays c.loop-value-test.true in
    omega (arith, fits.1, c.args.self.now.few_nexts)

pub overflow_add-target : goal.overflow_add-target
overflow_add-target t c =
    let m = length c.args.self.now.values.now in
    let n = length c.args.self.now.nexts.now in
    let stays = subst (λ (ds : List FreeDigit). StaysBelow ds c.args.source c.args.target m n) c.in-Some.ensures.cases.0 c.requires in
    let fits = first_fits c.in-Some.digit.now c.in-Some.rest.now c.args.source c.args.target m n c.loop-value.value stays c.loop-value-test.true in
    omega (arith, fits.1, c.args.self.now.few_nexts)

pub least-least-requires : goal.least-least-requires
least-least-requires t c =
    let m = length c.args.self.now.values.now in
    let n = length c.args.self.now.nexts.now in
    let stays = subst (λ (ds : List FreeDigit). StaysBelow ds c.args.source c.args.target m n) c.in-Some.ensures.cases.0 c.requires in
    (omega (arith, c.in-Some.ensures.cases.1, c.decreases), rest_stays c.in-Some.digit.now c.in-Some.rest.now c.args.source c.args.target m n c.loop-value.value stays c.loop-value-test.true)

pub returns-then-first-least : goal.returns-then-first-least
returns-then-first-least t c =
    let test = is_fall_within c.args.self.now.values.now c.args.self.now.nexts.now c.args.self.now.share in
    subst (λ (ds : List FreeDigit). IsLeast test ds c.args.source c.args.target c.args.limit c.loop-value.least) (sym c.in-Some.ensures.cases.0)
    (rest_above test c.in-Some.digit.now c.in-Some.rest.now c.args.source c.args.target c.loop-value.value c.args.limit c.loop-value.least c.loop-value.auto.value-end c.if-first-least.true c.loop-value.invariant)

pub loop-value-preserved : goal.loop-value-preserved
loop-value-preserved t c =
    let test = is_fall_within c.args.self.now.values.now c.args.self.now.nexts.now c.args.self.now.share in
    one_more test c.in-Some.digit.now c.in-Some.rest.now c.args.source c.args.target c.loop-value.value c.args.limit c.loop-value.least c.least-least.result
    c.loop-value.invariant c.least-least.ensures
