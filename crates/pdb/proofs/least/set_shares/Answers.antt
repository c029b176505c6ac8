use Rattle.std.proofs.Common.{◌≡◌, ℕ, length, subst, arith}
use Rattle.pdb.proofs.Shares.{AreSet, AreSet-write, AreSet-past, AreSet-here, AreSet-others}
use Rattle.pdb.proofs.least.set_shares.Goals as goal
use Rattle.pdb.proofs.least.set_shares.Goals.{then-index-shares, else-index-shares}

pub loop-operator-preserved : goal.loop-operator-preserved
loop-operator-preserved c =
    let indices = c.args.operators.now in
    let start = c.args.shares.now in
    let old = c.loop-operator.shares in
    let n = c.loop-operator.operator-index in
    elim c.if-index-shares.branch [
      | then-index-shares w ↦ rw w.shares-is (AreSet-write indices start old n c.args.share c.loop-operator.auto.shares w.if-index-shares.true c.loop-operator.invariant)
      | else-index-shares w ↦ rw w.shares-is (AreSet-past indices start old n c.args.share c.loop-operator.auto.shares w.if-index-shares.false c.loop-operator.invariant)
    ]

pub returns : goal.returns
returns c =
    let indices = c.args.operators.now in
    let start = c.args.shares.now in
    let new = c.loop-operator.shares in
    let end : c.loop-operator.operator-index ≡ length indices = omega (arith, c.loop-operator-test.false, c.loop-operator.auto.operator-index-end) in
    let all : AreSet indices start new (length indices) c.args.share = subst (λ (n : ℕ). AreSet indices start new n c.args.share) end c.loop-operator.invariant in
    record {
      set = λ o l has. AreSet-here indices start new c.args.share all o l has;
      others = λ o away. AreSet-others indices start new c.args.share all o away;
    }
