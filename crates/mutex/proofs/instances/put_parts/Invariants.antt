use Rattle.std.proofs.Common.{◌≡◌, ℕ, ◌<◌, ◌||◌, ◌&&◌, [], length, take}
use Rattle.std.specs.Prelude.{slice_index_or}
use Rattle.std.specs.List.{list_any}
use Rattle.index_rows.specs.Numbers.{has}
use Rattle.mutex.specs.Steps.{binds, is_row_place}
use Rattle.mutex.proofs.instances.put_parts.Given as goal

abbrev pub invariant-loop-part : goal.invariant-loop-part
invariant-loop-part l =
    (object k : ℕ) → object < length l.lists
    → has (slice_index_or l.lists object []) k
    ≡ (has (slice_index_or l.fn.lists object []) k
    || list_any (λ part. is_row_place l.index part.predicate k && binds l.index part object k) (take l.part-index l.parts))
