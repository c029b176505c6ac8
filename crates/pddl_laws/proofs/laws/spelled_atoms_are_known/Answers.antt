use Rattle.pddl_laws.proofs.KnownAtoms.{spelled_known}
use Rattle.pddl_laws.proofs.laws.spelled_atoms_are_known.Goals as goal

pub returns : goal.returns
returns c = spelled_known
