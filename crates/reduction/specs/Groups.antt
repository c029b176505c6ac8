-- Groups of equal operators: an image for each, and the best operator with it.
use Rattle.std.specs.Prelude.{◌≡◌, ℕ, ◌<◌, Bool, true, false, List, length, slice_get, Option, Some, None, IfSome, IsSomeAnd}
use Rattle.fdr.specs.declared.fact.Fact.{Fact}
use Rattle.fdr.specs.Tasks.{FiniteDomainTask}
use Rattle.reduction.specs.Retained.{IsBefore}
use Rattle.reduction.specs.Images.{HasImage}
use Rattle.reduction.specs.Closing.{is_marked}

-- of the marked operators among the first n with these images this one comes first
pub record IsBest (task : FiniteDomainTask) (classes : List (List ℕ)) (marks : List Bool) (n : ℕ) (precondition effect : List Fact) (o : ℕ) : Type 0 where
  pub below : o < n
  pub marked : is_marked marks o ≡ true
  pub image : HasImage task classes o precondition effect
  pub first : (p : ℕ) → p < n → is_marked marks p ≡ true → HasImage task classes p precondition effect → IsBefore task p o → ⊥

-- each of the marked operators among the first n has one of the images, no two of which are the same, and with each
-- image there is its best operator
pub record AreGroups (task : FiniteDomainTask) (classes : List (List ℕ)) (marks : List Bool) (n : ℕ) (images : List (List Fact × List Fact)) (best : List ℕ) : Type 0 where
  pub as_many : length best ≡ length images
  pub distinct : (g h : ℕ) (i : List Fact × List Fact) → slice_get images g ≡ Some i → slice_get images h ≡ Some i → g ≡ h
  pub bests : (g o : ℕ) (i : List Fact × List Fact) → slice_get images g ≡ Some i → slice_get best g ≡ Some o → IsBest task classes marks n i.0 i.1 o
  pub covered : (o : ℕ) → o < n → is_marked marks o ≡ true → (g : ℕ) × (i : List Fact × List Fact) × (slice_get images g ≡ Some i) × HasImage task classes o i.0 i.1

-- an operator with a group is marked and has the group's images, and one without a group is not marked
abbrev pub IsGroupOf : FiniteDomainTask → List (List ℕ) → List Bool → List (List Fact × List Fact) → ℕ → Option ℕ → Type 0
IsGroupOf task classes marks images o None = is_marked marks o ≡ false
IsGroupOf task classes marks images o (Some g) =
    (is_marked marks o ≡ true) × IsSomeAnd (slice_get images g) (λ i. HasImage task classes o i.0 i.1)

-- the groups of the first n operators
pub record AreGroupsOf (task : FiniteDomainTask) (classes : List (List ℕ)) (marks : List Bool) (n : ℕ) (images : List (List Fact × List Fact)) (groups : List (Option ℕ)) : Type 0 where
  pub as_many : length groups ≡ n
  pub each : (o : ℕ) → IfSome (slice_get groups o) (IsGroupOf task classes marks images o)
