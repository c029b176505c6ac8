use Rattle.pddl_grammar.proofs.WholeNumbers.{spelled_read, read_spelled}
use Rattle.pddl_grammar.proofs.laws.digits_are_read.Goals as goal

pub returns-clause-read : goal.returns-clause-read
returns-clause-read c = spelled_read

pub returns-clause-spelled : goal.returns-clause-spelled
returns-clause-spelled c = read_spelled
