use Rattle.std.proofs.Common.{◌≡◌, drop}
use Rattle.std.specs.Prelude.{codes}
use Rattle.pddl_names.specs.Names.{with_name}
use Rattle.pddl_syntax.specs.Typed.{spread}
use Rattle.pddl_domain.specs.Types.{all_types}
use Rattle.pddl_domain.proofs.types.add_types.Given as goal

abbrev pub invariant-loop-run : goal.invariant-loop-run
invariant-loop-run l = all_types l.names (spread (drop l.run-index l.runs)) ≡ all_types (with_name l.fn.names (codes "object")) (spread l.runs)
