use Rattle.std.proofs.Common.{◌≡◌, take}
use Rattle.abstraction_groups.specs.Factors.{changes_by}
use Rattle.abstraction_groups.proofs.read.add_effects.Given as goal

abbrev pub invariant-loop-fact : goal.invariant-loop-fact
invariant-loop-fact g l = l.changes ≡ changes_by (g.A.FactoredAbstraction.factors l.abstraction) l.conditions (take l.fact-index l.effects)
