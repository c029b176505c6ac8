use Rattle.pdb_walks.proofs.Saturation.{distance_unique, fall_unique}
use Rattle.pdb_walks.proofs.laws.distances_and_falls_are_unique.Goals as goal

pub returns-clause-distance : goal.returns-clause-distance
returns-clause-distance c = distance_unique

pub returns-clause-fall : goal.returns-clause-fall
returns-clause-fall c = fall_unique
