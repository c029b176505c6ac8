use Rattle.std.proofs.Common.{◌≡◌, take, map}
use Rattle.pddl_domain.specs.Types.{first_parent}
use Rattle.pddl_domain.proofs.types.supertypes.Given as goal

abbrev pub invariant-loop-first : goal.invariant-loop-first
invariant-loop-first l = l.supertypes.items ≡ map first_parent (take l.first-index l.firsts)
