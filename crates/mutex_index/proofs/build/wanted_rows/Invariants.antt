use Rattle.std.proofs.Common.{◌≡◌, true, map, take}
use Rattle.mutex_index.specs.Places.{literal_places}
use Rattle.mutex_index.proofs.build.wanted_rows.Given as goal

abbrev pub invariant-loop-action : goal.invariant-loop-action
invariant-loop-action l = l.rows ≡ map (λ a. literal_places l.atoms true a.precondition) (take l.action-index l.actions)
