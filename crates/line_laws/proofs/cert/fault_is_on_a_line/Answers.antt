use Rattle.line_laws.proofs.CertPromises.{on_a_line_is}
use Rattle.line_laws.proofs.cert.fault_is_on_a_line.Goals as goal

pub returns : goal.returns
returns c = on_a_line_is
