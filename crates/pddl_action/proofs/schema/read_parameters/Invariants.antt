use Rattle.std.proofs.Common.{◌≡◌, drop, map}
use Rattle.std.specs.Option.{option_map}
use Rattle.pddl_syntax.specs.Faults.{first_of}
use Rattle.pddl_action.specs.declared.keyword.Keyword.TheVariants.{Parameters}
use Rattle.pddl_action.specs.Keywords.{part_of, value_of}
use Rattle.pddl_action.specs.Readings.{value_or, names_of_list, types_of_list, lists_faults}
use Rattle.pddl_action.proofs.schema.read_parameters.Given as goal

abbrev pub invariant-loop-part : goal.invariant-loop-part
invariant-loop-part l = let all = map part_of l.parts in let left = map part_of (drop l.part-index l.parts) in record {
  names : value_or (option_map (λ p. p.names) l.parameters) names_of_list Parameters left ≡ names_of_list (value_of Parameters all);
  types : value_or (option_map (λ p. p.types.items) l.parameters) (types_of_list l.types.names) Parameters left ≡ types_of_list l.types.names (value_of Parameters all);
  faults : first_of l.first (lists_faults l.types.names left) ≡ first_of l.fn.first (lists_faults l.types.names all);
}
