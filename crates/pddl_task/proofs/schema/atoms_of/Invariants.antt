use Rattle.std.proofs.Common.{◌≡◌, ◌++◌, drop}
use Rattle.pddl_task.specs.Planning.{atoms_of}
use Rattle.pddl_task.proofs.schema.atoms_of.Given as goal

abbrev pub invariant-loop-effect : goal.invariant-loop-effect
invariant-loop-effect l =
    l.atoms.items ++ atoms_of l.objects l.positive (drop l.effect-index l.effects) ≡ atoms_of l.objects l.positive l.effects
