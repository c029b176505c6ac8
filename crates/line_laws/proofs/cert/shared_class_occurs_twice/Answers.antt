use Rattle.line_laws.proofs.CertRepeats.{shared_is_twice}
use Rattle.line_laws.proofs.cert.shared_class_occurs_twice.Goals as goal

pub returns : goal.returns
returns c = shared_is_twice
