use Rattle.std.proofs.Common.{◌≡◌, map, take}
use Rattle.mutex_index.specs.Places.{removed_places}
use Rattle.mutex_index.proofs.build.removed_rows.Given as goal

abbrev pub invariant-loop-action : goal.invariant-loop-action
invariant-loop-action l = l.rows ≡ map (λ a. removed_places l.atoms a.adds a.deletes) (take l.action-index l.actions)
