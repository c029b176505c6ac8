use Rattle.std.proofs.Common.{◌≡◌, ℕ, ap, ◌∙◌, ◌++◌, ◌∷◌, [], arith}
use Rattle.reduction_certs.specs.InTask.{share_in_task}
use Rattle.reduction_certs.proofs.ShareLaws.{next_listed, next_none, amount_read}
use Rattle.reduction_certs.proofs.shares.shares_in_task.Goals as goal

pub loop-operator-preserved-then-amount-eq0 : goal.loop-operator-preserved-then-amount-eq0
loop-operator-preserved-then-amount-eq0 c =
    let read : c.amount_of-amount.result ≡ share_in_task c.args.representatives.now c.args.shares.now c.loop-operator.operator =
    amount_read c.args.count c.args.representatives.now c.args.shares.now c.in_ok-amounts.amounts.items c.deref.result.now c.loop-operator.operator c.amount_of-amount.result c.loop-operator-test.true c.requires.exist c.in_ok-amounts.ensures.amounts
    c.deref.ensures.value c.amount_of-amount.ensures in
    next_none c.args.representatives.now c.args.shares.now c.loop-operator.operator c.loop-operator.made.items c.loop-operator.invariant (omega (arith, read, c.if-amount-eq0.true))

pub loop-operator-preserved : goal.loop-operator-preserved
loop-operator-preserved c =
    let read : c.amount_of-amount.result ≡ share_in_task c.args.representatives.now c.args.shares.now c.loop-operator.operator =
    amount_read c.args.count c.args.representatives.now c.args.shares.now c.in_ok-amounts.amounts.items c.deref.result.now c.loop-operator.operator c.amount_of-amount.result c.loop-operator-test.true c.requires.exist c.in_ok-amounts.ensures.amounts
    c.deref.ensures.value c.amount_of-amount.ensures in
    c.in_ok-push.ensures.items
    ∙ ap (λ (a : ℕ). c.loop-operator.made.items ++ record { operator = c.loop-operator.operator; amount = a } ∷ []) read
    ∙ next_listed c.args.representatives.now c.args.shares.now c.loop-operator.operator c.loop-operator.made.items c.loop-operator.invariant (omega (arith, read, c.if-amount-eq0.false))
