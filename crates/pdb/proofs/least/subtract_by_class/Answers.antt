use Rattle.std.proofs.Common.{◌≡◌, slice_index, arith}
use Rattle.pdb.proofs.Shares.{below_first, below_all, shares_subtracted, shares_left_out}
use Rattle.pdb.proofs.least.subtract_by_class.Goals as goal
use Rattle.pdb.proofs.least.subtract_by_class.Goals.{then-numbers-class-gt0, else-numbers-class-gt0}

pub loop-class-init : goal.loop-class-init
loop-class-init g c =
    let classes = g.T.BackwardTransitions.classes c.args.transitions.now in
    λ o. omega (arith, below_first classes c.args.numbers.now o)

pub loop-class-preserved : goal.loop-class-preserved
loop-class-preserved g c =
    let classes = g.T.BackwardTransitions.classes c.args.transitions.now in
    let numbers = c.args.numbers.now in
    let start = c.args.left.now in
    let old = c.loop-class.left in
    let n = c.loop-class.class in
    elim c.if-numbers-class-gt0.branch [
      | then-numbers-class-gt0 w ↦
          rw w.left-is (shares_subtracted classes numbers w.operators_of.result.now n w.operators_of.ensures.operators start old w.subtract_share.new.left w.subtract_share.ensures.less w.subtract_share.ensures.others c.loop-class.invariant)
      | else-numbers-class-gt0 w ↦
          let none : slice_index numbers n ≡ 0 = omega (arith, w.if-numbers-class-gt0.false) in
          rw w.left-is (shares_left_out classes numbers start old n none c.loop-class.invariant)
    ]

pub returns : goal.returns
returns g c =
    let classes = g.T.BackwardTransitions.classes c.args.transitions.now in
    let inside = (g.met.T.BackwardTransitions.grouped c.args.transitions.now).below in
    λ o. omega (arith, c.loop-class.invariant o, below_all classes c.args.numbers.now c.loop-class.class o (λ p e. omega (arith, inside o p e, c.requires, c.loop-class-test.false)))
