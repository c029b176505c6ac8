use Rattle.line_laws.proofs.CertPromises.{one_text_is}
use Rattle.line_laws.proofs.cert.one_text.Goals as goal

pub returns : goal.returns
returns c = one_text_is
