use Rattle.std.proofs.Common.{◌≡◌, ◌++◌, [], map, drop, length}
use Rattle.pddl_syntax.specs.Faults.{first_of}
use Rattle.pddl_syntax.specs.Typed.{spread}
use Rattle.pddl_syntax.specs.Parameters.{names_with, type_number, variable_faults}
use Rattle.pddl_syntax.proofs.parameters.declared.Given as goal

abbrev pub invariant-loop-run : goal.invariant-loop-run
invariant-loop-run l = record {
  names : names_with l.parameters.names (spread (drop l.run-index l.runs)) ≡ names_with [] (spread l.runs);
  types : l.parameters.types.items ++ map (type_number l.types.names) (spread (drop l.run-index l.runs)) ≡ map (type_number l.types.names) (spread l.runs);
  faults : first_of l.first (variable_faults l.parameters.names (length l.parameters.types.items) (spread (drop l.run-index l.runs)))
      ≡ first_of l.fn.first (variable_faults [] 0 (spread l.runs));
}
