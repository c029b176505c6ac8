use Rattle.sexp.proofs.Promises.{one_without_fault_is}
use Rattle.sexp.proofs.laws.one_without_fault.Goals as goal

pub returns : goal.returns
returns c = one_without_fault_is
