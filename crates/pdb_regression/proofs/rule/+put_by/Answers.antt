use Rattle.std.proofs.Common.{arith}
use Rattle.pdb_regression.proofs.Bounds.{put_steps}
use Rattle.pdb_regression.proofs.rule.+put_by.Goals as goal

pub overflow_mul-result : goal.overflow_mul-result
overflow_mul-result t c =
    let steps = put_steps c.args.changes.now c.in-len1-up.len_at_least c.requires.fit c.requires.small in rw c.put_by.ensures (omega (arith, steps.0))

pub overflow_add-result : goal.overflow_add-result
overflow_add-result t c =
    let steps = put_steps c.args.changes.now c.in-len1-up.len_at_least c.requires.fit c.requires.small in rw (c.put_by.ensures, c.value_put.ensures) (omega (arith, steps.1))
