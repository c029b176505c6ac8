-- Owners at the start of a world.
use Rattle.std.specs.Prelude.{◌≡◌, ℕ, ◌==◌, List}
use Rattle.cost.specs.Distances.{Infinite}
use Rattle.owner_theory.specs.Owners.{start_owner}
use Rattle.owner.specs.Spaces.{SpaceOf, searched}
use Rattle.owner.specs.Owned.{OwnerOf, under}

-- owner v of `count` owners, at the start
pub record IsFirstOwner {S : Type 0} (owner : S → List ℕ → ℕ → ℕ) (searched_space : SpaceOf S) (count v : ℕ) (o : OwnerOf S) : Type 0 where
  pub started : under o Infinite ≡ start_owner (searched owner searched_space count) (owner searched_space.spread searched_space.task.initial count == v)
  pub space : o.space ≡ searched_space
  pub worker : o.worker ≡ v
  pub expansions : o.expansions ≡ 0
