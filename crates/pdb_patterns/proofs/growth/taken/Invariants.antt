use Rattle.std.proofs.Common.{◌≡◌, ◌<◌}
use Rattle.std.specs.Prelude.{All}
use Rattle.fdr.specs.Tasks.{ranges}
use Rattle.abstraction.specs.Projections.{size_of}
use Rattle.pdb_patterns.specs.Patterns.{IsPattern}
use Rattle.pdb_patterns.proofs.growth.taken.Given as goal

abbrev pub invariant-loop-variable : goal.invariant-loop-variable
invariant-loop-variable l =
    IsPattern l.task l.limit l.pattern.items × All (λ p. p < l.variable) l.pattern.items × (l.size ≡ size_of (ranges l.task) l.pattern.items)
