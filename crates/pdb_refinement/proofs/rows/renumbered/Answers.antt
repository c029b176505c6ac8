use Rattle.std.proofs.Common.{arith}
use Rattle.pdb_refinement.proofs.Renumbered.{few_olds, known_renumbered, fresh_renumbered}
use Rattle.pdb_refinement.proofs.rows.renumbered.Goals.{in-Some, in-None+in_ok-push-in-None}
use Rattle.pdb_refinement.proofs.rows.renumbered.Goals as goal

pub overflow_cast-next : goal.overflow_cast-next
overflow_cast-next c =
    let few = few_olds c.args.classes.now c.loop-class.class-index c.loop-class.olds.items c.loop-class.renumbered.items c.loop-class.invariant in
    omega (arith, few, c.loop-class-test.true, c.requires)

pub loop-class-preserved : goal.loop-class-preserved
loop-class-preserved c = elim c.match-number_of.branch [
  | in-Some w ↦
      rw (w.olds-is, c.in_ok-push.ensures.items, w.number-is)
      (known_renumbered c.args.classes.now c.loop-class.class-index c.loop-class.olds.items c.loop-class.renumbered.items c.loop-class.invariant w.in-Some.number
      (rw c.deref.ensures.value at w.in-Some.ensures.within) (rw c.deref.ensures.value at w.in-Some.ensures.old))
  | in-None+in_ok-push-in-None w ↦
      rw (w.olds-is, c.in_ok-push.ensures.items, w.in_ok-push-in-None.ensures.items, w.number-is)
      (fresh_renumbered c.args.classes.now c.loop-class.class-index c.loop-class.olds.items c.loop-class.renumbered.items c.loop-class.invariant w.len-next.result (omega (arith, w.len-next.ensures)))
]
