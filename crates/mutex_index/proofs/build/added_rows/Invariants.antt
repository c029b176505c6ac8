use Rattle.std.proofs.Common.{◌≡◌, map, take}
use Rattle.mutex_index.specs.Places.{places_of}
use Rattle.mutex_index.proofs.build.added_rows.Given as goal

abbrev pub invariant-loop-action : goal.invariant-loop-action
invariant-loop-action l = l.rows ≡ map (λ a. places_of l.atoms a.adds) (take l.action-index l.actions)
