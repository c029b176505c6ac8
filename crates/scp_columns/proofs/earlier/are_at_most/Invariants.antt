use Rattle.std.proofs.Common.{◌≡◌, ℕ, ◌<◌, ◌≤◌, true}
use Rattle.std.specs.Prelude.{slice_index}
use Rattle.abstraction_mapping.specs.Views.{abstraction_in}
use Rattle.scp_columns.proofs.earlier.are_at_most.Given as goal

abbrev pub invariant-loop-operator : goal.invariant-loop-operator
invariant-loop-operator l = (o : ℕ) → o < l.operator → (abstraction_in l.abstraction).touches o ≡ true → slice_index l.left o ≤ slice_index l.costs o
