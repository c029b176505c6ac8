use Rattle.std.proofs.Common.{◌≡◌, ℕ, length, subst, arith}
use Rattle.pdb.proofs.Shares.{AreLess, AreLess-write, AreLess-past, AreLess-here, AreLess-others}
use Rattle.pdb.proofs.least.subtract_share.Goals as goal
use Rattle.pdb.proofs.least.subtract_share.Goals.{then-index-left, else-index-left}

pub loop-operator-preserved : goal.loop-operator-preserved
loop-operator-preserved c =
    let indices = c.args.operators.now in
    let start = c.args.left.now in
    let old = c.loop-operator.left in
    let n = c.loop-operator.operator-index in
    elim c.if-index-left.branch [
      | then-index-left w ↦
          rw w.left-is (AreLess-write indices start old n c.args.share w.saturating_sub.result w.saturating_sub.ensures c.requires c.loop-operator-test.true c.loop-operator.auto.left w.if-index-left.true c.loop-operator.invariant)
      | else-index-left w ↦
          rw w.left-is (AreLess-past indices start old n c.args.share c.requires c.loop-operator-test.true c.loop-operator.auto.left w.if-index-left.false c.loop-operator.invariant)
    ]

pub returns : goal.returns
returns c =
    let indices = c.args.operators.now in
    let start = c.args.left.now in
    let new = c.loop-operator.left in
    let end : c.loop-operator.operator-index ≡ length indices = omega (arith, c.loop-operator-test.false, c.loop-operator.auto.operator-index-end) in
    let all : AreLess indices start new (length indices) c.args.share = subst (λ (n : ℕ). AreLess indices start new n c.args.share) end c.loop-operator.invariant in
    record {
      less = λ o has. AreLess-here indices start new c.args.share all o has;
      others = λ o away. AreLess-others indices start new c.args.share all o away;
    }
