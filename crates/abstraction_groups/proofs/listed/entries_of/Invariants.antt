use Rattle.abstraction_groups.specs.Factors.{digits_of, group_changes}
use Rattle.abstraction_groups.proofs.ListLaws.{AreMade}
use Rattle.abstraction_groups.proofs.listed.entries_of.Given as goal

abbrev pub invariant-loop-group : goal.invariant-loop-group
invariant-loop-group g l =
    AreMade (digits_of (g.A.FactoredAbstraction.factors l.groups)) (group_changes (g.A.Abstraction.task l.groups) (g.A.FactoredAbstraction.factors l.groups)) l.group l.entries.items
