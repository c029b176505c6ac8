use Rattle.std.proofs.Common.{◌≡◌, take}
use Rattle.abstraction_domain.specs.Domains.{variables}
use Rattle.abstraction_domain.proofs.domain.variables_of.Given as goal

abbrev pub invariant-loop-row : goal.invariant-loop-row
invariant-loop-row l = l.listed.items ≡ variables (take l.row-index l.rows)
