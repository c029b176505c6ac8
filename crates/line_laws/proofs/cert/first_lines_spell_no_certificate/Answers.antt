use Rattle.line_laws.proofs.CertPromises.{nothing_spelled_is}
use Rattle.line_laws.proofs.cert.first_lines_spell_no_certificate.Goals as goal

pub returns : goal.returns
returns c = nothing_spelled_is
