use Rattle.std.proofs.Common.{refl}
use Rattle.checker_clauses.proofs.Worked.{met_without_classes}
use Rattle.checker_clauses.proofs.laws.without_classes.Goals as goal

pub returns-clause-task : goal.returns-clause-task
returns-clause-task c task = refl

pub returns-clause-clause : goal.returns-clause-clause
returns-clause-clause c task certificate none = met_without_classes task certificate none
