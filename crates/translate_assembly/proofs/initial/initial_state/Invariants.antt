use Rattle.std.proofs.Common.{◌≡◌, length, map, take}
use Rattle.translate_assembly.specs.Slots.{look_up, values_of}
use Rattle.translate_assembly.proofs.initial.initial_state.Given as goal

abbrev pub invariant-loop-atom : goal.invariant-loop-atom
invariant-loop-atom l = l.state.items ≡ values_of (look_up l.table) (map (λ v. length v.places) l.variables) (take l.atom-index l.atoms)
