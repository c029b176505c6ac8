use Rattle.std.proofs.Common.{◌≡◌, ℕ, length, subst, arith}
use Rattle.test_walks.proofs.OperatorLists.{AreMembersBelow, one_more, no_more, AreMembers-all}
use Rattle.test_walks.proofs.members.members_of.Goals as goal
use Rattle.test_walks.proofs.members.members_of.Goals.{then-kinds-operator+in_ok-push, else-kinds-operator}

pub loop-operator-preserved : goal.loop-operator-preserved
loop-operator-preserved c =
    let kinds = c.args.kinds.now in
    let n = c.loop-operator.operator in
    let old = c.loop-operator.members.items in
    elim c.if-kinds-operator.branch [
      | then-kinds-operator+in_ok-push w ↦ rw (w.members-is, w.in_ok-push.ensures.items) (one_more kinds c.args.class n old w.if-kinds-operator.true c.loop-operator.invariant)
      | else-kinds-operator w ↦ rw w.members-is (no_more kinds c.args.class n old w.if-kinds-operator.false c.loop-operator.invariant)
    ]

pub returns : goal.returns
returns c =
    let kinds = c.args.kinds.now in
    let items = c.loop-operator.members.items in
    let end : c.loop-operator.operator ≡ length kinds = omega (arith, c.loop-operator-test.false, c.loop-operator.auto.operator-end) in
    AreMembers-all c.args.count kinds c.args.class items c.requires.class (subst (λ (n : ℕ). AreMembersBelow kinds c.args.class n items) end c.loop-operator.invariant)
