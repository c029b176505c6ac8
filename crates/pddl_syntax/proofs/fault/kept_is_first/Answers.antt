use Rattle.pddl_syntax.proofs.Firsts as firsts
use Rattle.pddl_syntax.proofs.fault.kept_is_first.Goals as goal

pub returns : goal.returns
returns c = firsts.kept_is_first
