use Rattle.std.proofs.Common.{◌≡◌, ◌++◌, List, map, drop, length}
use Rattle.pddl_syntax.specs.Faults.{first_of}
use Rattle.pddl_syntax.specs.Typed.{Declared, spread_run, with_type, parent_text}
use Rattle.pddl_syntax.specs.Parameters.{names_with, variable_faults}
use Rattle.pddl_syntax.proofs.parameters.Parameters.declare_run.Given as goal

abbrev pub invariant-loop-named : goal.invariant-loop-named
invariant-loop-named l =
    let left = map (with_type (parent_text l.run)) (drop l.named-index l.run.names.items) in
    record {
      names : names_with l.self.names left ≡ names_with l.fn.self.names (spread_run l.run);
      types : l.self.types.items ++ map (λ (d : Declared). l.type_number) left ≡ l.fn.self.types.items ++ map (λ (d : Declared). l.type_number) (spread_run l.run);
      faults : (rest : List Declared) → first_of l.first (variable_faults l.self.names (length l.self.types.items) (left ++ rest))
          ≡ first_of l.fn.first (variable_faults l.fn.self.names (length l.fn.self.types.items) (spread_run l.run ++ rest));
    }
