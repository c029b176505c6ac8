use Rattle.pddl_grammar.proofs.Runs.{faultless_runs}
use Rattle.pddl_grammar.proofs.laws.lists_without_fault_are_runs.Goals as goal

pub returns : goal.returns
returns c = faultless_runs
