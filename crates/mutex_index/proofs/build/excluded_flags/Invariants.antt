use Rattle.std.proofs.Common.{◌≡◌, ℕ, ◌<◌, false, length, take}
use Rattle.std.specs.Prelude.{slice_index_or}
use Rattle.std.specs.List.{list_any}
use Rattle.index_rows.specs.Numbers.{has}
use Rattle.mutex_index.specs.Places.{literal_places}
use Rattle.mutex_index.proofs.build.excluded_flags.Given as goal

abbrev pub invariant-loop-action : goal.invariant-loop-action
invariant-loop-action l =
    record {
      count : length l.flags.items ≡ length l.atoms;
      entries : (p : ℕ) → p < length l.atoms
          → slice_index_or l.flags.items p false ≡ list_any (λ a. has (literal_places l.atoms false a.precondition) p) (take l.action-index l.actions);
    }
