-- Retained operators: those that change a class, and of those that are equal in the reduced task the first of the least
-- cost.
use Rattle.std.specs.Prelude.{◌≡◌, ℕ, ◌<◌, ◌≤◌, ◌↔◌, ◌⊎◌, List, Contains, IsSomeAnd, slice_get}
use Rattle.std.specs.List.Sorted.{IsStrictlyIncreasing, IsPermutation}
use Rattle.fdr.specs.declared.fact.Fact.{Fact}
use Rattle.fdr.specs.Tasks.{FiniteDomainTask, Operator, cost_of}
use Rattle.reduction_classes.specs.Reduced.{reduced_facts}
use Rattle.reduction.specs.Facts.{Facts}
use Rattle.reduction.specs.Asked.{ChangesClass}

-- the same facts, in any order
abbrev pub SameFacts : List Fact → List Fact → Type 0
SameFacts xs ys = (f : Fact) → Contains xs f ↔ Contains ys f

-- the operators have the same images of conditions and of effects
pub record AreEqual (classes : List (List ℕ)) (a b : Operator) : Type 0 where
  pub precondition : SameFacts (reduced_facts classes a.precondition) (reduced_facts classes b.precondition)
  pub effect : SameFacts (reduced_facts classes a.effect) (reduced_facts classes b.effect)

-- the operators with these numbers exist and are equal
abbrev pub AreEqualAt : FiniteDomainTask → List (List ℕ) → ℕ → ℕ → Type 0
AreEqualAt task classes o p =
    IsSomeAnd (slice_get task.operators o) (λ a. IsSomeAnd (slice_get task.operators p) (λ b. AreEqual classes a b))

-- the first operator costs less, or the same and has the lower number
abbrev pub IsBefore : FiniteDomainTask → ℕ → ℕ → Type 0
IsBefore task o p = (cost_of task o < cost_of task p) ⊎ ((cost_of task o ≡ cost_of task p) × (o < p))

-- the operator changes a class, and no equal one that changes a class comes before it
pub record IsRetained (task : FiniteDomainTask) (asked : Facts) (classes : List (List ℕ)) (o : ℕ) : Type 0 where
  pub changes : ChangesClass task asked o
  pub first : (p : ℕ) → ChangesClass task asked p → AreEqualAt task classes o p → IsBefore task p o → ⊥

-- the numbers of the retained operators
abbrev pub AreRetained : FiniteDomainTask → Facts → List (List ℕ) → List ℕ → Type 0
AreRetained task asked classes retained = (o : ℕ) → Contains retained o ↔ IsRetained task asked classes o

-- each operator that changes a class has an equal one among these that costs at most as much
abbrev pub Covers : FiniteDomainTask → Facts → List (List ℕ) → List ℕ → Type 0
Covers task asked classes retained =
    (o : ℕ) → ChangesClass task asked o → (k : ℕ) × Contains retained k × AreEqualAt task classes o k × (cost_of task k ≤ cost_of task o)

-- each of the numbers is listed once: in increasing order, each is less than the next
abbrev pub AreListedOnce : List ℕ → Type 0
AreListedOnce numbers = (ordered : List ℕ) × IsStrictlyIncreasing ordered × IsPermutation ordered numbers
