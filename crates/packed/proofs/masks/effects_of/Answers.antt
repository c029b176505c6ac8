use Rattle.std.proofs.Common.{◌≡◌, ◌+◌, ◌<◌, List, length, get_or, sym, ap, subst, ◌∙◌}
use Rattle.fdr.specs.declared.fact.Fact.{Fact}
use Rattle.fdr.specs.Tasks.{Operator}
use Rattle.packed.specs.declared.mask.WordMask.{WordMask}
use Rattle.packed.specs.Masks.{Write, WriteEffects}
use Rattle.packed.proofs.Masking.{write_more_effects}
use Rattle.packed.proofs.masks.effects_of.Goals as goal

pub loop-operator-preserved : goal.loop-operator-preserved
loop-operator-preserved c =
    let task = c.args.task.now in
    let layout = c.args.layout.now in
    let o = c.loop-operator.operator-index in
    let op = c.operator-item.result in
    let masks = c.deref-in-loop-operator.result.now in
    let facts_are = c.deref.ensures.value ∙ ap (λ (x : Operator). x.effect) c.operator.view_is in
    let operators_are = c.operators-operator-items.ensures.value in
    subst (λ (es : List (List WordMask)). WriteEffects task (o + 1) es) (sym c.in_ok-push.ensures)
    (write_more_effects task o op c.loop-operator.effects masks
    (subst (λ (ops : List Operator). o < length ops) operators_are c.loop-operator-test.true)
    (subst (λ (ops : List Operator). op ≡ get_or ops o op) operators_are c.operator-item.is)
    c.loop-operator.invariant
    (subst (λ (rs : List _). Write rs op.effect masks) c.requires
    (subst (λ (fs : List Fact). Write layout fs masks) facts_are
    (subst (λ (ms : List WordMask). Write layout c.deref.result.now ms) (sym c.deref-in-loop-operator.ensures.value) c.in_ok-write_masks.ensures))))
