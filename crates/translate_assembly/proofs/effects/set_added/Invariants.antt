use Rattle.std.proofs.Common.{◌≡◌, take}
use Rattle.translate_assembly.specs.Slots.{look_up}
use Rattle.translate_assembly.specs.Facts.{assigned}
use Rattle.translate_assembly.specs.Operators.{fact_of}
use Rattle.translate_assembly.proofs.effects.set_added.Given as goal

abbrev pub invariant-loop-atom : goal.invariant-loop-atom
invariant-loop-atom l = l.facts ≡ assigned (fact_of (look_up l.table)) l.fn.facts (take l.atom-index l.adds)
