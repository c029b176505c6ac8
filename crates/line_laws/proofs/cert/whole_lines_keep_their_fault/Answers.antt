use Rattle.line_laws.proofs.CertPromises.{whole_lines_is}
use Rattle.line_laws.proofs.cert.whole_lines_keep_their_fault.Goals as goal

pub returns : goal.returns
returns c = whole_lines_is
