use Rattle.std.proofs.Common.{◌≡◌, ◌++◌, List, map, drop}
use Rattle.pddl_syntax.specs.Faults.{first_of}
use Rattle.pddl_syntax.specs.Typed.{Declared, spread_run, with_type, parent_text}
use Rattle.pddl_domain.specs.Objects.{objects_with, object_faults, IsTextOf}
use Rattle.pddl_domain.proofs.objects.Objects.declare_run.Given as goal

abbrev pub invariant-loop-named : goal.invariant-loop-named
invariant-loop-named l =
    let left = map (with_type (parent_text l.run)) (drop l.named-index l.run.names.items) in
    record {
      text : IsTextOf l.self.texts (parent_text l.run) l.declared.text;
      objects : objects_with l.types.names l.self left ≡ objects_with l.types.names l.fn.self (spread_run l.run);
      faults : (rest : List Declared) → first_of l.first (object_faults l.types.names l.self (left ++ rest))
          ≡ first_of l.fn.first (object_faults l.types.names l.fn.self (spread_run l.run ++ rest));
    }
