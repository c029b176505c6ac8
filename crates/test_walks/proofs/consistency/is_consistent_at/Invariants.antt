use Rattle.std.proofs.Common.{ℕ, ◌<◌, slice_index}
use Rattle.std.specs.Prelude.{IfSome}
use Rattle.cost.specs.Distances.{Finite, ◌≤ᵈ◌, ◌+ᵈ◌}
use Rattle.pdb_walks.specs.Walks.{value_in}
use Rattle.test_walks.specs.Graphs.{abstraction_by}
use Rattle.test_walks.proofs.consistency.is_consistent_at.Given as goal

abbrev pub invariant-loop-operator : goal.invariant-loop-operator
invariant-loop-operator l = (o : ℕ) → o < l.operator → IfSome ((abstraction_by l.graph).transition l.state o)
    (λ j. value_in l.values l.state ≤ᵈ Finite (slice_index l.shares o) +ᵈ value_in l.values j)
