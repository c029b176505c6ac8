use Rattle.std.proofs.Common.{◌≡◌, map, take}
use Rattle.fdr.specs.Tasks.{ranges}
use Rattle.reduction.specs.Facts.{no_facts}
use Rattle.reduction.proofs.facts.FactSet.new.Given as goal

abbrev pub invariant-loop-variable : goal.invariant-loop-variable
invariant-loop-variable l = map (λ r. r.items) l.members.items ≡ no_facts (take l.variable (ranges l.task))
