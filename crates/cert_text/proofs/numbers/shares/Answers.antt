use Rattle.cert_text.specs.Cursors.{left}
use Rattle.cert_text.proofs.NumberLaws.{shares_step}
use Rattle.cert_text.proofs.numbers.shares.Goals as goal

pub loop-operator-preserved : goal.loop-operator-preserved
loop-operator-preserved c =
    rw c.in_ok-push-in-Some-share_of.ensures.items (shares_step c.loop-operator.shares.items c.in-Some-share_of.share c.in-Some.operator.now c.in-Some-first.amount.now (left c.loop-operator.rest) (left c.in-Some.behind) (left c.in-Some-first.behind) _ c.in-Some.ensures.words c.in-Some-first.ensures.words c.in-Some-share_of.ensures c.loop-operator.invariant)
