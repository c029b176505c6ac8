use Rattle.std.proofs.Common.{false, sym, subst, ◌∙◌, arith}
use Rattle.std.specs.List.Sorted.{IsStrictlyIncreasing}
use Rattle.std.proofs.lemmas.List.{get_or_read}
use Rattle.reduction.specs.Closing.{is_marked}
use Rattle.reduction.proofs.InOrder.{listed_none, listed_more, same_numbers}
use Rattle.reduction.proofs.LoopLaws.{filter_step, filter_increasing}
use Rattle.reduction.proofs.retained.in_order.Goals as goal

pub loop-number-init : goal.loop-number-init
loop-number-init c = listed_none c.args.count c.args.numbers.now c.in_ok-is_listed.is_listed.items (c.in_ok-is_listed.ensures.items_if_clones_equal (λ y e. e))

pub index_mut-requires : goal.index_mut-requires
index_mut-requires c = omega (arith, c.requires c.loop-number.number-index 0 c.loop-number-test.true, c.loop-number.invariant.long, c.loop-number.is_listed.ok.0)

pub loop-number-preserved : goal.loop-number-preserved
loop-number-preserved c = listed_more c.args.count c.loop-number.number-index 0 c.args.numbers.now c.loop-number.is_listed.items c.loop-number-test.true (c.requires c.loop-number.number-index 0 c.loop-number-test.true) c.loop-number.invariant

pub index-requires : goal.index-requires
index-requires c = omega (arith, c.loop-candidate-test.true, c.loop-number.invariant.long, c.loop-number.is_listed.ok.0)

pub loop-candidate-preserved-then-not-index : goal.loop-candidate-preserved-then-not-index
loop-candidate-preserved-then-not-index c =
    let marks = c.loop-number.is_listed.items in
    let n = c.loop-candidate.candidate in
    let read = get_or_read marks n c.index.result.now (omega (arith, c.loop-candidate-test.true, c.loop-number.invariant.long)) c.index.ensures false in
    (filter_step (is_marked marks) n c.loop-candidate.ordered.items c.loop-candidate.invariant).1 (sym read ∙ c.if-not-index.true)

pub loop-candidate-preserved : goal.loop-candidate-preserved
loop-candidate-preserved c =
    let marks = c.loop-number.is_listed.items in
    let n = c.loop-candidate.candidate in
    let read = get_or_read marks n c.index.result.now (omega (arith, c.loop-candidate-test.true, c.loop-number.invariant.long)) c.index.ensures false in
    c.in_ok-push.ensures.items ∙ (filter_step (is_marked marks) n c.loop-candidate.ordered.items c.loop-candidate.invariant).0 (sym read ∙ c.if-not-index.false)

pub returns-clause-increasing : goal.returns-clause-increasing
returns-clause-increasing c = subst IsStrictlyIncreasing (sym c.loop-candidate.invariant) (filter_increasing (is_marked c.loop-number.is_listed.items) c.loop-candidate.candidate)

pub returns-clause-same : goal.returns-clause-same
returns-clause-same c =
    same_numbers c.args.count c.loop-number.number-index c.loop-candidate.candidate c.args.numbers.now c.loop-candidate.ordered.items c.loop-number.is_listed.items c.loop-number-test.false c.loop-number.invariant c.requires
    (omega (arith, c.loop-candidate-test.false, c.loop-candidate.auto.candidate-end)) c.loop-candidate.invariant
