use Rattle.std.proofs.Common.{◌≡◌, map, take}
use Rattle.pddl_task.specs.Atoms.{wants}
use Rattle.translate_vars.proofs.flags.goal_flags.Given as goal

abbrev pub invariant-loop-atom : goal.invariant-loop-atom
invariant-loop-atom l = l.flags.items ≡ map (wants l.goal) (take l.atom-index l.atom-items)
