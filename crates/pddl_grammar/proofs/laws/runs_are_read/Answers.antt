use Rattle.pddl_grammar.proofs.Runs.{runs_faultless, runs_declared}
use Rattle.pddl_grammar.proofs.laws.runs_are_read.Goals as goal

pub returns-clause-faultless : goal.returns-clause-faultless
returns-clause-faultless c = runs_faultless

pub returns-clause-meaning : goal.returns-clause-meaning
returns-clause-meaning c = runs_declared
