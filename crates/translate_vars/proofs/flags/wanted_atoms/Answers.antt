use Rattle.std.proofs.Common.{rules}
use Rattle.translate_vars.proofs.FlagLaws.{one_more_wanted, one_more_negated}
use Rattle.translate_vars.proofs.flags.wanted_atoms.Goals as goal
use Rattle.translate_vars.proofs.flags.wanted_atoms.Goals.{then-literal+in_ok-try_clone+in_ok-push, else-literal}

pub loop-literal-preserved : goal.loop-literal-preserved
loop-literal-preserved c =
    elim c.if-literal.branch [
      | then-literal+in_ok-try_clone+in_ok-push w ↦
          one_more_wanted c.args.literals.now c.loop-literal.literal-index c.literal-item.result c.loop-literal.atoms c.if-literal.atoms
          c.loop-literal-test.true c.literal-item.is c.loop-literal.invariant (search rules) (search rules)
      | else-literal w ↦
          rw w.atoms-is (one_more_negated c.args.literals.now c.loop-literal.literal-index c.literal-item.result c.loop-literal.atoms
          c.loop-literal-test.true c.literal-item.is c.loop-literal.invariant (search rules))
    ]
