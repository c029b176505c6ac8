use Rattle.std.proofs.Common.{◌≡◌, ◌++◌, [], drop, map}
use Rattle.pddl_syntax.specs.Faults.{first_of}
use Rattle.pddl_syntax.specs.Sections.{part_of}
use Rattle.pddl_action.specs.Actions.{schema_of, place_of, names_with, each_faults}
use Rattle.pddl_action.proofs.action.read_actions.Given as goal

abbrev pub invariant-loop-section : goal.invariant-loop-section
invariant-loop-section l = record {
  schemas : l.actions.schemas.items ++ map (schema_of l.declarations) (map part_of (drop l.section-index l.sections)) ≡ map (schema_of l.declarations) (map part_of l.sections);
  names : names_with l.actions.names (map part_of (drop l.section-index l.sections)) ≡ names_with [] (map part_of l.sections);
  places : l.actions.places.items ++ map place_of (map part_of (drop l.section-index l.sections)) ≡ map place_of (map part_of l.sections);
  faults : first_of l.first (each_faults l.declarations l.actions.names (map part_of (drop l.section-index l.sections))) ≡ first_of l.fn.first (each_faults l.declarations [] (map part_of l.sections));
}
