use Rattle.cert_text.proofs.Promises as promise
use Rattle.cert_text.proofs.laws.spelled_or_not.Goals as goal

pub returns-clause-either : goal.returns-clause-either
returns-clause-either c = promise.spelled_or_not
