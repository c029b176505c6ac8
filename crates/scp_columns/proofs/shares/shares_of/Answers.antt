use Rattle.std.proofs.Common.{◌≡◌, ◌<◌, length, arith, refl}
use Rattle.scp_columns.proofs.SparseShares.{with_share, without_share, all_same}
use Rattle.scp_columns.proofs.shares.shares_of.Goals as goal
use Rattle.scp_columns.proofs.shares.shares_of.Goals.{then-needed-operator-gt0+in_ok-push, else-needed-operator-gt0}

pub loop-operator-preserved : goal.loop-operator-preserved
loop-operator-preserved c = elim c.if-needed-operator-gt0.branch [
  | then-needed-operator-gt0+in_ok-push w ↦
      let low : c.loop-operator.operator < length c.args.needed.now = omega (arith, c.loop-operator-test.true) in
      rw (w.shares-is, w.in_ok-push.ensures.items)
      (with_share _ _ _ _ c.loop-operator.invariant (omega (arith, low, c.requires.few)) w.if-needed-operator-gt0.true (c.requires.small c.loop-operator.operator) refl)
  | else-needed-operator-gt0 w ↦ rw w.shares-is (without_share _ _ _ c.loop-operator.invariant (omega (arith, w.if-needed-operator-gt0.false)))
]

pub returns-clause-same : goal.returns-clause-same
returns-clause-same c =
    let whole : c.loop-operator.operator ≡ length c.args.needed.now = omega (arith, c.loop-operator-test.false, c.loop-operator.auto.operator-end) in
    all_same _ _ (rw whole at c.loop-operator.invariant)
