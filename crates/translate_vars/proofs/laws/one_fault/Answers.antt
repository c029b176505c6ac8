use Rattle.translate_vars.proofs.StageLaws.{one_fault_of}
use Rattle.translate_vars.proofs.laws.one_fault.Goals as goal

pub returns : goal.returns
returns c = one_fault_of
