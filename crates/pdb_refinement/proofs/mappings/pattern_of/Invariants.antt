use Rattle.std.specs.Prelude.{All, Contains}
use Rattle.abstraction_domain.specs.Domains.{variables}
use Rattle.pdb_patterns.proofs.Longer.{IsSoFar}
use Rattle.pdb_refinement.proofs.mappings.pattern_of.Given as goal

abbrev pub invariant-loop-variable : goal.invariant-loop-variable
invariant-loop-variable l = record {
  so_far : IsSoFar l.task l.limit l.variable l.size l.pattern.items;
  among : All (Contains (variables l.rows)) l.pattern.items;
}
