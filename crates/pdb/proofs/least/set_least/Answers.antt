use Rattle.std.proofs.Common.{◌∷◌, [], arith}
use Rattle.std.proofs.lemmas.List.{length-append}
use Rattle.pdb.proofs.Shares.{least_pushed, small_pushed, AreLeast-each}
use Rattle.pdb.proofs.least.set_least.Goals as goal

pub loop-class-preserved : goal.loop-class-preserved
loop-class-preserved g c =
    let classes = g.T.BackwardTransitions.classes c.args.transitions.now in
    let shares = c.args.shares.now in
    let least = c.loop-class.least.items in
    let operators = c.operators_of-operators.result.now in
    let m = c.least_of.result in
    let listed = c.operators_of-operators.ensures.operators in
    rw c.in_ok-push.ensures.items
    (record {
      len = omega (arith, length-append least (m ∷ []), c.loop-class.invariant.len);
      small = small_pushed classes shares least operators c.args.most c.loop-class.class m c.loop-class.invariant.len listed c.least_of.ensures c.loop-class.invariant.small;
      least = least_pushed classes shares least operators c.args.most c.loop-class.class m c.loop-class.invariant.len listed c.least_of.ensures c.loop-class.invariant.least;
    })

pub returns-clause-least : goal.returns-clause-least
returns-clause-least g c =
    let classes = g.T.BackwardTransitions.classes c.args.transitions.now in
    AreLeast-each classes c.args.shares.now c.loop-class.least.items c.args.most (g.met.T.BackwardTransitions.grouped c.args.transitions.now).below c.requires
    (λ p l. c.loop-class.invariant.least p (omega (arith, c.class_count-class-end.ensures, c.loop-class-test.false)))
