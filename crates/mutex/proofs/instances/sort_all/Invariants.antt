use Rattle.std.proofs.Common.{◌≡◌, ℕ, ◌<◌, ◌≤◌, []}
use Rattle.std.specs.Prelude.{slice_index_or}
use Rattle.std.specs.List.Sorted.{IsStrictlyIncreasing}
use Rattle.index_rows.specs.Numbers.{AreSameSet}
use Rattle.mutex.proofs.instances.sort_all.Given as goal

abbrev pub invariant-loop-list : goal.invariant-loop-list
invariant-loop-list l =
    record {
      rising : (n : ℕ) → n < l.list-index → IsStrictlyIncreasing (slice_index_or l.lists n []);
      same : (n : ℕ) → n < l.list-index → AreSameSet (slice_index_or l.lists n []) (slice_index_or l.fn.lists n []);
      rest : (n : ℕ) → l.list-index ≤ n → slice_index_or l.lists n [] ≡ slice_index_or l.fn.lists n [];
    }
