use Rattle.sexp.proofs.Promises.{one_spelled_or_not_is}
use Rattle.sexp.proofs.laws.one_spelled_or_not.Goals as goal

pub returns : goal.returns
returns c = one_spelled_or_not_is
