use Rattle.line_laws.proofs.SasPromises.{same_lines_is}
use Rattle.line_laws.proofs.sas.same_lines_same_fault.Goals as goal

pub returns : goal.returns
returns c = same_lines_is
