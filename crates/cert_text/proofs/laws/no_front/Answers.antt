use Rattle.cert_text.proofs.AgainAll as again
use Rattle.cert_text.proofs.laws.no_front.Goals as goal

pub returns : goal.returns
returns c = again.no_front
