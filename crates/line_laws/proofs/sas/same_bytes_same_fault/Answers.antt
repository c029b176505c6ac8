use Rattle.line_laws.proofs.SasPromises.{same_bytes_is}
use Rattle.line_laws.proofs.sas.same_bytes_same_fault.Goals as goal

pub returns : goal.returns
returns c = same_bytes_is
