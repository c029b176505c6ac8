use Rattle.std.proofs.Common.{take, All}
use Rattle.abstraction_domain.specs.Rows.{Row, AreNumbered}
use Rattle.reduction_certs.proofs.columns.recall_rows.Given as goal

abbrev pub invariant-loop-row : goal.invariant-loop-row
invariant-loop-row l = All (λ (r : Row). AreNumbered r.classes) (take l.row-index l.rows)
