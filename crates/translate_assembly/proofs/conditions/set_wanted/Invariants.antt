use Rattle.std.proofs.Common.{◌≡◌, take}
use Rattle.translate_assembly.specs.Slots.{look_up}
use Rattle.translate_assembly.specs.Facts.{assigned}
use Rattle.translate_assembly.specs.Operators.{wanted_fact}
use Rattle.translate_assembly.proofs.conditions.set_wanted.Given as goal

abbrev pub invariant-loop-literal : goal.invariant-loop-literal
invariant-loop-literal l = l.facts ≡ assigned (wanted_fact (look_up l.table)) l.fn.facts (take l.literal-index l.literals)
