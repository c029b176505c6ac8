use Rattle.std.proofs.Common.{◌≡◌, ℕ, ◌<◌, ◌||◌, ◌&&◌, [], length, take}
use Rattle.std.specs.Prelude.{slice_index_or}
use Rattle.index_rows.specs.Numbers.{has}
use Rattle.mutex.specs.Steps.{binds}
use Rattle.mutex.proofs.instances.put_part.Given as goal

abbrev pub invariant-loop-place : goal.invariant-loop-place
invariant-loop-place l =
    (object k : ℕ) → object < length l.lists
    → has (slice_index_or l.lists object []) k
    ≡ (has (slice_index_or l.fn.lists object []) k || (has (take l.place-index l.places) k && binds l.index l.part object k))
