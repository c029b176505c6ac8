use Rattle.checker_clauses.proofs.FirstViolations.{one_first, none_where_held}
use Rattle.checker_clauses.proofs.laws.one_first_violation.Goals as goal

pub returns-clause-one : goal.returns-clause-one
returns-clause-one c task cert v w p q = one_first task cert v w p q

pub returns-clause-none : goal.returns-clause-none
returns-clause-none c task cert v p held = none_where_held task cert v p held
