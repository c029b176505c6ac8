use Rattle.std.proofs.Common.{sym, ◌∙◌, arith}
use Rattle.checker_states.proofs.Hashing.{hash_ends}
use Rattle.checker_states.proofs.hash.hash_of.Goals as goal

pub returns : goal.returns
returns c =
    sym (hash_ends c.loop-variable.hash c.loop-variable.variable c.args.multipliers.now c.args.state.now (omega (arith, c.loop-variable-test.false, c.min-count.ensures)))
    ∙ c.loop-variable.invariant
