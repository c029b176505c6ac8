use Rattle.std.proofs.Common.{sym}
use Rattle.sexp.specs.Forms.{none}
use Rattle.pddl_syntax.specs.Faults.{first_of}
use Rattle.pddl_action.proofs.schema.Body.read_effect.Goals as goal

pub returns-then-is_none-clause-faults : goal.returns-then-is_none-clause-faults
unfolding first_of
returns-then-is_none-clause-faults c = sym (c.in_ok-read_effect.ensures.faults none)

pub returns-else-is_none-clause-faults : goal.returns-else-is_none-clause-faults
unfolding first_of
returns-else-is_none-clause-faults c = sym (c.in_ok-read_effect.ensures.faults none)
