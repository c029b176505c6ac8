use Rattle.pddl_grammar.proofs.Atoms.{atom_read, read_atom}
use Rattle.pddl_grammar.proofs.laws.atoms_are_read.Goals as goal

pub returns-clause-read : goal.returns-clause-read
returns-clause-read c = atom_read

pub returns-clause-spelled : goal.returns-clause-spelled
returns-clause-spelled c = read_atom
