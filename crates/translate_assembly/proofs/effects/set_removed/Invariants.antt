use Rattle.std.proofs.Common.{◌≡◌, take}
use Rattle.translate_assembly.specs.Slots.{look_up}
use Rattle.translate_assembly.specs.Facts.{assigned}
use Rattle.translate_assembly.specs.Operators.{removed_fact}
use Rattle.translate_assembly.proofs.effects.set_removed.Given as goal

abbrev pub invariant-loop-atom : goal.invariant-loop-atom
invariant-loop-atom l = l.facts ≡ assigned (removed_fact (look_up l.table) l.condition) l.fn.facts (take l.atom-index l.deletes)
