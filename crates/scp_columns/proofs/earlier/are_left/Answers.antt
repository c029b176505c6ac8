use Rattle.std.proofs.Common.{rules, List, [], ◌∷◌, ◌≤◌, slice_index, get_or, take, arith, subst}
use Rattle.std.specs.Prelude.{All}
use Rattle.std.proofs.lemmas.List.{take_all, take_more}
use Rattle.std.proofs.lemmas.List.Elements.{All-nil, All-cons, All-append}
use Rattle.cert_value.specs.declared.table.Share.{Share}
use Rattle.scp_columns.proofs.TakenShares.{shares_left}
use Rattle.scp_columns.proofs.earlier.are_left.Goals as goal

pub loop-share-preserved : goal.loop-share-preserved
loop-share-preserved c =
    let left = c.args.left.now in
    let shares = c.args.shares.now in
    let i = c.loop-share.share-index in
    let share = get_or shares i (record { operator = 0; amount = 0 }) in
    let enough : share.amount ≤ slice_index left share.operator = search (rules, arith, c.if-share-cost.true, c.in-Some.ensures.lookup) in
    rw (take_more shares i (record { operator = 0; amount = 0 }) c.loop-share-test.true)
    (All-append (λ (s : Share). s.amount ≤ slice_index left s.operator) (take i shares) (share ∷ []) c.loop-share.invariant
    (All-cons (λ (s : Share). s.amount ≤ slice_index left s.operator) share [] enough (All-nil (λ (s : Share). s.amount ≤ slice_index left s.operator))))

pub returns : goal.returns
returns c found =
    shares_left c.args.left.now c.args.shares.now
    (subst (λ (ss : List Share). All (λ s. s.amount ≤ slice_index c.args.left.now s.operator) ss)
    (take_all c.loop-share.share-index c.args.shares.now (omega (arith, c.loop-share-test.false, c.loop-share.auto.share-index-end))) c.loop-share.invariant)
