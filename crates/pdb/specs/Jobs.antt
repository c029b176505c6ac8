-- Several tables at once.
use Rattle.std.specs.Prelude.{ℕ, ◌^◌, List, slice_index, All}
use Rattle.cost.specs.Distances.{Distance, IsWithin}
use Rattle.abstraction.specs.Abstractions.{Abstraction}
use Rattle.pdb_walks.specs.Walks.{AreDistances}

-- the values are the distances in the abstraction under the shares, and the finite ones are at most 2^55
pub record IsTableOf (a : Abstraction) (shares : List ℕ) (values : List Distance) : Type 0 where
  pub distances : AreDistances a (λ o. slice_index shares o) values
  pub small : All (IsWithin (2 ^ 55)) values
