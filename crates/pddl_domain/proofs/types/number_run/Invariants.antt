use Rattle.std.proofs.Common.{◌≡◌, ◌++◌, drop, map}
use Rattle.pddl_syntax.specs.Typed.{with_type, parent_text, spread_run}
use Rattle.pddl_domain.specs.Types.{numbered}
use Rattle.pddl_domain.proofs.types.number_run.Given as goal

abbrev pub invariant-loop-named : goal.invariant-loop-named
invariant-loop-named l =
    l.subtypes.items ++ map (numbered l.names) (map (with_type (parent_text l.run)) (drop l.named-index l.run.names.items))
    ≡ l.fn.subtypes.items ++ map (numbered l.names) (spread_run l.run)
