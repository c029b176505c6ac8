use Rattle.std.proofs.Common.{◌+◌, slice_index_or, drop, subst}
use Rattle.std.proofs.lemmas.List.{drop_more}
use Rattle.cert_value.specs.declared.table.Share.{Share}
use Rattle.scp_columns.proofs.TakenShares.{AreTaken, taken_within, taken_past}
use Rattle.scp_columns.proofs.costs.take_shares.Goals as goal
use Rattle.scp_columns.proofs.costs.take_shares.Goals.{then-operator-left, else-operator-left}

pub loop-share-preserved : goal.loop-share-preserved
loop-share-preserved c =
    let start = c.args.left.now in
    let left = c.loop-share.left in
    let shares = c.args.shares.now in
    let none : Share = record { operator = 0; amount = 0 } in
    let share = slice_index_or shares c.loop-share.share-index none in
    let rest = drop (c.loop-share.share-index + 1) shares in
    let before = subst (AreTaken start left shares) (drop_more shares c.loop-share.share-index none c.loop-share-test.true) c.loop-share.invariant in
    elim c.if-operator-left.branch [
      | then-operator-left w ↦ rw (w.left-is, w.saturating_sub.ensures) (taken_within start left shares share rest before w.if-operator-left.true)
      | else-operator-left w ↦ rw w.left-is (taken_past start left shares share rest before w.if-operator-left.false)
    ]
