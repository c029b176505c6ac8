use Rattle.sasfile_reader.proofs.Promises.{no_fault_is}
use Rattle.sasfile_reader.proofs.laws.no_fault.Goals as goal

pub returns : goal.returns
returns c = no_fault_is
