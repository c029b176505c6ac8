use Rattle.std.proofs.Common.{◌≡◌, take}
use Rattle.pddl_task.specs.Atoms.{Atom, contains, wants}
use Rattle.translate_vars.proofs.flags.wanted_atoms.Given as goal

abbrev pub invariant-loop-literal : goal.invariant-loop-literal
invariant-loop-literal l = (p : Atom) → contains l.atoms p ≡ wants (take l.literal-index l.literals) p
