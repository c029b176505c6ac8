use Rattle.translate_vars.proofs.StageLaws.{none_if_fit}
use Rattle.translate_vars.proofs.laws.fit_has_no_fault.Goals as goal

pub returns : goal.returns
returns c = none_if_fit
