use Rattle.std.proofs.Common.{◌≡◌, take}
use Rattle.translate_assembly.specs.Slots.{look_up}
use Rattle.translate_assembly.specs.Facts.{assigned}
use Rattle.translate_assembly.specs.Operators.{excluded_fact}
use Rattle.translate_assembly.proofs.conditions.set_excluded.Given as goal

abbrev pub invariant-loop-literal : goal.invariant-loop-literal
invariant-loop-literal l = l.facts ≡ assigned (excluded_fact (look_up l.table)) l.fn.facts (take l.literal-index l.literals)
