use Rattle.std.proofs.Common.{take, get_or, arith}
use Rattle.std.proofs.lemmas.List.{take_more, take_all}
use Rattle.pdb.proofs.Shares.{IsLeastOf-with, IsLeastOf-without}
use Rattle.pdb.proofs.least.least_of.Goals as goal
use Rattle.pdb.proofs.least.least_of.Goals.{then-index-shares, else-index-shares}

pub loop-operator-preserved : goal.loop-operator-preserved
loop-operator-preserved c =
    let shares = c.args.shares.now in
    let n = c.loop-operator.operator-index in
    let done = take n c.args.operators.now in
    let o = get_or c.args.operators.now n 0 in
    rw (take_more c.args.operators.now n 0 c.loop-operator-test.true)
    (elim c.if-index-shares.branch [
      | then-index-shares w ↦
          rw w.least-is (IsLeastOf-with shares done c.args.most c.loop-operator.least o w.min-least.result w.min-least.ensures c.loop-operator.invariant)
      | else-index-shares w ↦
          rw w.least-is (IsLeastOf-without shares done c.args.most c.loop-operator.least o (omega (arith, w.if-index-shares.false)) c.loop-operator.invariant)
    ])

pub returns : goal.returns
returns c = rw (take_all c.loop-operator.operator-index c.args.operators.now (omega (arith, c.loop-operator-test.false))) at c.loop-operator.invariant
