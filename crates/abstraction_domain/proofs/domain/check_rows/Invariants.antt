use Rattle.std.proofs.Common.{take, All}
use Rattle.fdr.specs.Tasks.{ranges}
use Rattle.abstraction_domain.specs.Domains.{IsFit}
use Rattle.abstraction_domain.proofs.domain.check_rows.Given as goal

abbrev pub invariant-loop-place : goal.invariant-loop-place
invariant-loop-place l = All (IsFit (ranges l.task)) (take l.place l.rows)
