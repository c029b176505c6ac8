use Rattle.pdb_walks.proofs.Saturation.{distances_consistent}
use Rattle.pdb_walks.proofs.laws.distances_are_consistent.Goals as goal

pub returns : goal.returns
returns c = distances_consistent
