use Rattle.line_laws.proofs.SasPromises.{on_a_line_is}
use Rattle.line_laws.proofs.sas.fault_is_on_a_line.Goals as goal

pub returns : goal.returns
returns c = on_a_line_is
