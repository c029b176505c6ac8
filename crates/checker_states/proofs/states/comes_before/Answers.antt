use Rattle.std.proofs.Common.{◌∙◌}
use Rattle.checker_states.proofs.StateLaws.{before_is}
use Rattle.checker_states.proofs.states.comes_before.Goals as goal

pub returns : goal.returns
returns c = c.lt.ensures ∙ before_is c.args.first.now c.args.second.now
