use Rattle.std.proofs.Common.{ℕ, ◌<◌, length, slice_index}
use Rattle.std.specs.Prelude.{IfSome}
use Rattle.cost.specs.Distances.{Finite, ◌≤ᵈ◌, ◌+ᵈ◌}
use Rattle.pdb_walks.specs.Walks.{value_in}
use Rattle.test_walks.specs.Graphs.{abstraction_by}
use Rattle.test_walks.proofs.consistency.is_consistent.Given as goal

abbrev pub invariant-loop-state : goal.invariant-loop-state
invariant-loop-state l = (i : ℕ) → i < l.state → (o : ℕ) → o < length l.shares → IfSome ((abstraction_by l.graph).transition i o)
    (λ j. value_in l.values i ≤ᵈ Finite (slice_index l.shares o) +ᵈ value_in l.values j)
