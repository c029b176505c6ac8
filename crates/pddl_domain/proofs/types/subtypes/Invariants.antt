use Rattle.std.proofs.Common.{◌≡◌, ◌++◌, drop, map}
use Rattle.pddl_syntax.specs.Typed.{spread}
use Rattle.pddl_domain.specs.Types.{numbered}
use Rattle.pddl_domain.proofs.types.subtypes.Given as goal

abbrev pub invariant-loop-run : goal.invariant-loop-run
invariant-loop-run l = l.subtypes.items ++ map (numbered l.names) (spread (drop l.run-index l.runs)) ≡ map (numbered l.names) (spread l.runs)
