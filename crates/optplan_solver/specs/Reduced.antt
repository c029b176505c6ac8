-- Reductions of a task, and the classes that certificates for it state.
use Rattle.std.specs.Prelude.{◌≡◌, ℕ, if◌then◌else◌, List, []}
use Rattle.fdr.specs.Tasks.{FiniteDomainTask}
use Rattle.reduction.specs.Reductions.{IsReduction, IsExact, retained_task}
use Rattle.reduction.specs.Represented.{AreRepresented}
use Rattle.reduction.specs.declared.reduction.Reduction.{Reduction}
use Rattle.reduction_certs.specs.InTask.{share_classes}

-- this is a reduction of the task, and it is exact
pub record IsReductionOf (task : FiniteDomainTask) (r : Reduction) : Type 0 where
  pub reduction : IsReduction task r.classes r.retained.items
  pub represented : AreRepresented task r.classes r.retained.items r.representatives.items
  pub task_is : r.task ≡ retained_task task r.classes r.retained.items
  pub exact : IsExact task r.task r.retained.items

-- the classes that a certificate states: none if no two values of a variable share one
abbrev pub stated_classes : List (List ℕ) → List (List ℕ)
stated_classes classes = if share_classes classes then classes else []
