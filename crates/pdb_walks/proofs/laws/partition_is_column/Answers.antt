use Rattle.pdb_walks.proofs.Saturation.{partition_column}
use Rattle.pdb_walks.proofs.laws.partition_is_column.Goals as goal

pub returns : goal.returns
returns c = partition_column
