-- How an operator is added to the groups of equal operators.
use Rattle.std.specs.Prelude.{◌≡◌, ℕ, ◌++◌, ◌⊎◌, if◌then◌else◌, nat_lt, List, [], ◌∷◌, map, Some, slice_get, slice_set}
use Rattle.fdr.specs.declared.fact.Fact.{Fact}
use Rattle.fdr.specs.Tasks.{FiniteDomainTask, cost_of}
use Rattle.reduction.specs.declared.retained.Images.{Images}

-- the images of conditions and effects
abbrev pub image_in : Images → List Fact × List Fact
image_in i = (i.precondition.items, i.effect.items)

abbrev pub images_in : List Images → List (List Fact × List Fact)
images_in keys = map image_in keys

-- the operator begins a group, since its images are new
pub record BeginsGroup (old new : List (List Fact × List Fact)) (before after : List ℕ) (image : List Fact × List Fact) (o : ℕ) : Type 0 where
  pub absent : (g : ℕ) → slice_get old g ≡ Some image → ⊥
  pub images : new ≡ old ++ image ∷ []
  pub best : after ≡ before ++ o ∷ []

-- the operator joins the group with its images, and is its best if it costs less than the best so far
pub record JoinsGroup (task : FiniteDomainTask) (old new : List (List Fact × List Fact)) (before after : List ℕ) (image : List Fact × List Fact) (o : ℕ) : Type 0 where
  pub group : ℕ
  pub least : ℕ
  pub known : slice_get old group ≡ Some image
  pub images : new ≡ old
  pub least_is : slice_get before group ≡ Some least
  pub best : after ≡ (if nat_lt (cost_of task o) (cost_of task least) then slice_set before group o else before)

abbrev pub Adds : FiniteDomainTask → List (List Fact × List Fact) → List (List Fact × List Fact) → List ℕ → List ℕ → List Fact × List Fact → ℕ → Type 0
Adds task old new best after image o = BeginsGroup old new best after image o ⊎ JoinsGroup task old new best after image o
