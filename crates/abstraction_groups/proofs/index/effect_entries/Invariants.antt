use Rattle.abstraction_groups.specs.Indexes.{AreEffects}
use Rattle.abstraction_groups.proofs.index.effect_entries.Given as goal

abbrev pub invariant-loop-number : goal.invariant-loop-number
invariant-loop-number l = AreEffects l.task l.number l.entries.items
