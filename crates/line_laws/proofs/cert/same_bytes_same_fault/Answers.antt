use Rattle.line_laws.proofs.CertPromises.{same_bytes_is}
use Rattle.line_laws.proofs.cert.same_bytes_same_fault.Goals as goal

pub returns : goal.returns
returns c = same_bytes_is
