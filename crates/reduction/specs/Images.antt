-- Images of operators with their facts in the order of the variables, by which equal operators are found.
use Rattle.std.specs.Prelude.{ℕ, List, map, slice_get, IsSomeAnd}
use Rattle.std.specs.List.Sorted.{IsStrictlyIncreasing}
use Rattle.fdr.specs.declared.fact.Fact.{Fact}
use Rattle.fdr.specs.Tasks.{FiniteDomainTask, Operator}
use Rattle.reduction_classes.specs.Reduced.{reduced_facts}
use Rattle.reduction.specs.Retained.{SameFacts}

-- the facts by strictly increasing variables
pub record IsOrdered (facts ordered : List Fact) : Type 0 where
  pub same : SameFacts facts ordered
  pub increasing : IsStrictlyIncreasing (map (λ f. f.variable) ordered)

-- the images of an operator's conditions and effects, each in the order of the variables
pub record IsImageOf (classes : List (List ℕ)) (op : Operator) (precondition effect : List Fact) : Type 0 where
  pub conditions : IsOrdered (reduced_facts classes op.precondition) precondition
  pub effects : IsOrdered (reduced_facts classes op.effect) effect

-- the same of the operator with this number
abbrev pub HasImage : FiniteDomainTask → List (List ℕ) → ℕ → List Fact → List Fact → Type 0
HasImage task classes o precondition effect =
    IsSomeAnd (slice_get task.operators o) (λ op. IsImageOf classes op precondition effect)
