use Rattle.std.proofs.Common.{◌≡◌, ◌++◌, map, take}
use Rattle.sasfile_writer.specs.Written.{text_of_lines, effect_line}
use Rattle.sasfile_writer.proofs.operators.push_effects.Given as goal

abbrev pub invariant-loop-effect : goal.invariant-loop-effect
invariant-loop-effect l = l.out.items ≡ l.fn.out.items ++ text_of_lines (map (effect_line l.precondition) (take l.effect-index l.effects))
