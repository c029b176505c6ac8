use Rattle.std.proofs.Common.{◌≡◌, ℕ, subst, arith}
use Rattle.test_walks.specs.Graphs.{AreListed}
use Rattle.test_walks.proofs.OperatorLists.{AreListed-more}
use Rattle.test_walks.proofs.members.members_of_all.Goals as goal

pub loop-class-preserved : goal.loop-class-preserved
loop-class-preserved c =
    rw c.in_ok-push.ensures.items
    (AreListed-more c.args.count c.args.kinds.now c.loop-class.class c.loop-class.members.items c.in_ok-operators.operators.items c.loop-class.invariant c.in_ok-operators.ensures)

pub returns : goal.returns
returns c =
    let end : c.loop-class.class ≡ c.args.count = omega (arith, c.loop-class-test.false, c.loop-class.auto.class-end) in
    subst (λ (n : ℕ). AreListed c.args.count c.args.kinds.now n c.loop-class.members.items) end c.loop-class.invariant
