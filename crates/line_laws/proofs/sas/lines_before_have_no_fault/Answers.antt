use Rattle.line_laws.proofs.SasPromises.{lines_before_is}
use Rattle.line_laws.proofs.sas.lines_before_have_no_fault.Goals as goal

pub returns : goal.returns
returns c = lines_before_is
