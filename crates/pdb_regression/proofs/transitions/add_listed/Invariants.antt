use Rattle.std.proofs.Common.{take}
use Rattle.std.specs.Prelude.{◌↔◌, ◌⊎◌, Contains}
use Rattle.abstraction_groups.specs.declared.backward.Transition.{Transition}
use Rattle.pdb_regression.specs.Tables.{LeadsIn}
use Rattle.pdb_regression.proofs.transitions.add_listed.Given as goal

abbrev pub invariant-loop-class : goal.invariant-loop-class
invariant-loop-class l = (t : Transition) → Contains l.transitions.items t ↔
    (Contains l.initial.transitions.items t ⊎ (Contains (take l.class-index l.classes) t.class × LeadsIn l.rules t.class t.source l.abstract_state))
