use Rattle.pddl_grammar.proofs.Atoms.{atom_faultless, faultless_atom}
use Rattle.pddl_grammar.proofs.laws.atoms_without_fault.Goals as goal

pub returns-clause-faultless : goal.returns-clause-faultless
returns-clause-faultless c = atom_faultless

pub returns-clause-spelled : goal.returns-clause-spelled
returns-clause-spelled c = faultless_atom
