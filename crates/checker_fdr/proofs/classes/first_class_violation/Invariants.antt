use Rattle.checker_clauses.specs.Clauses.{fits_row}
use Rattle.checker_states.specs.Places.{PassesBelow}
use Rattle.checker_fdr.proofs.classes.first_class_violation.Given as goal

abbrev pub invariant-loop-variable : goal.invariant-loop-variable
invariant-loop-variable l = PassesBelow (fits_row l.task l.certificate.classes) l.variable
