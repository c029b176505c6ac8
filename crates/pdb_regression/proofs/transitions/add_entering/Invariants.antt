use Rattle.std.specs.Prelude.{◌↔◌, ◌⊎◌, Contains}
use Rattle.abstraction_groups.specs.declared.backward.Transition.{Transition}
use Rattle.pdb_regression.specs.Tables.{LeadsIn, IsUnder}
use Rattle.pdb_regression.proofs.transitions.add_entering.Given as goal

abbrev pub invariant-loop-place : goal.invariant-loop-place
invariant-loop-place l = (t : Transition) → Contains l.transitions.items t ↔
    ((Contains l.rest t.class ⊎ IsUnder l.places l.place l.abstract_state t.class) × LeadsIn l.rules t.class t.source l.abstract_state)
