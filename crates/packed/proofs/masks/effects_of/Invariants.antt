use Rattle.packed.specs.Masks as spec
use Rattle.packed.proofs.masks.effects_of.Given as goal

abbrev pub invariant-loop-operator : goal.invariant-loop-operator
invariant-loop-operator l = spec.WriteEffects l.task l.operator-index l.effects
