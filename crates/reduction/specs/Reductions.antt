-- The reduction of a task, and what makes it exact.
use Rattle.std.specs.Prelude.{◌≡◌, ℕ, ◌≤◌, ◌↔◌, List, map, slice_index}
use Rattle.cost.specs.Distances.{Distance}
use Rattle.fdr.specs.Tasks.{FiniteDomainTask, ranges, IsPlan, plan_cost, EveryPlanCostsAtLeast, HasNoPlan}
use Rattle.reduction_classes.specs.Reduced.{reduced_with, chosen}
use Rattle.reduction.specs.Facts.{Facts}
use Rattle.reduction.specs.Asked.{AreAsked, AreClassesBy}
use Rattle.reduction.specs.Retained.{AreRetained, Covers}

-- the classes are those of the asked facts, and the operators are the retained ones; so each operator that changes a
-- class has an equal one among them that costs at most as much
pub record IsReduction (task : FiniteDomainTask) (classes : List (List ℕ)) (retained : List ℕ) : Type 0 where
  pub asked : Facts
  pub are_asked : AreAsked task asked
  pub classes_by : AreClassesBy (ranges task) asked classes
  pub are_retained : AreRetained task asked classes retained
  pub covers : Covers task asked classes retained

-- the reduced task over the retained operators
abbrev pub retained_task : FiniteDomainTask → List (List ℕ) → List ℕ → FiniteDomainTask
retained_task task classes retained = reduced_with classes task (chosen task.operators retained)

-- the operators of a plan of the reduced task, by their numbers in the task
abbrev pub in_task : List ℕ → List ℕ → List ℕ
in_task retained plan = map (slice_index retained) plan

-- a plan of the reduced task is, operator by operator, a plan of the task at the same cost; and both tasks have the
-- same lower bounds, so that a cheapest plan of the reduced task is a cheapest plan of the task
pub record IsExact (task reduced : FiniteDomainTask) (retained : List ℕ) : Type 0 where
  pub plans : (plan : List ℕ) → IsPlan reduced plan → IsPlan task (in_task retained plan) × (plan_cost task (in_task retained plan) ≡ plan_cost reduced plan)
  pub bounds : (bound : Distance) → EveryPlanCostsAtLeast reduced bound ↔ EveryPlanCostsAtLeast task bound
  pub none : HasNoPlan reduced ↔ HasNoPlan task

-- each plan of the task has one of the reduced task that costs at most as much
abbrev pub HasAsCheapPlans : FiniteDomainTask → FiniteDomainTask → Type 0
HasAsCheapPlans task reduced =
    (plan : List ℕ) → IsPlan task plan → (image : List ℕ) × IsPlan reduced image × (plan_cost reduced image ≤ plan_cost task plan)
