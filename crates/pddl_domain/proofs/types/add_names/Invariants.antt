use Rattle.std.proofs.Common.{◌≡◌, ℕ, List, drop, map}
use Rattle.std.specs.Prelude.{Option}
use Rattle.pddl_syntax.specs.Typed.{with_type}
use Rattle.pddl_syntax.specs.Parameters.{names_with}
use Rattle.pddl_domain.proofs.types.add_names.Given as goal

abbrev pub invariant-loop-named : goal.invariant-loop-named
invariant-loop-named l = (p : Option (List ℕ)) → names_with l.names (map (with_type p) (drop l.named-index l.added)) ≡ names_with l.fn.names (map (with_type p) l.added)
