use Rattle.sexp.proofs.Blame.{one_first}
use Rattle.sexp.proofs.laws.one_first_fault.Goals as goal

pub returns : goal.returns
returns c = one_first
