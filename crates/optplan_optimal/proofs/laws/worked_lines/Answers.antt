use Rattle.std.proofs.Common.{refl}
use Rattle.std.specs.Fmt.{digits}
use Rattle.optplan_optimal.proofs.laws.worked_lines.Goals as goal

pub returns-clause-lines : goal.returns-clause-lines
unfolding digits
returns-clause-lines c = (refl, refl, refl, refl, refl, refl)

pub returns-clause-statuses : goal.returns-clause-statuses
returns-clause-statuses c = (refl, refl, refl, refl)
