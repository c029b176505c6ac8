use Rattle.std.proofs.Common.{◌≡◌, ◌≤◌, length, take}
use Rattle.abstraction_groups.specs.Collected.{AreMembers, count_in}
use Rattle.abstraction_groups.specs.Factors.{digits_of}
use Rattle.abstraction_groups.specs.Tables.{AreChained}
use Rattle.abstraction_groups.proofs.groups.collect.Given as goal

abbrev pub invariant-loop-operator : goal.invariant-loop-operator
invariant-loop-operator g l =
    AreChained l.collected.table.rows l.collected.table.heads.items l.collected.table.links.items
    × AreMembers (g.A.Abstraction.task l.abstraction) (g.A.FactoredAbstraction.factors l.abstraction) (take l.operator-index l.operators) l.collected.table.rows l.collected.members.items
    × (l.collected.transition_count ≡ count_in (digits_of (g.A.FactoredAbstraction.factors l.abstraction)) l.collected.table.rows)
    × (l.collected.transition_count ≤ l.limit)
    × (length l.changes.items ≡ length (g.A.FactoredAbstraction.factors l.abstraction).variables)
