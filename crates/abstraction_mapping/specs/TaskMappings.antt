-- A mapping of a task.
use Rattle.std.specs.Prelude.{◌≡◌, true}
use Rattle.fdr.specs.Tasks.{FiniteDomainTask, IsTask}
use Rattle.abstraction.specs.Abstractions.{Abstraction, IsAbstractionOf}
use Rattle.abstraction_mapping.specs.Mappings.{Mapping, abstraction_by, is_mapping}
use Rattle.abstraction_mapping.specs.TestedMappings.{abstracts}

pub record TaskMapping : Type 0 where
  pub task : FiniteDomainTask
  pub mapping : Mapping
  pub is_task : IsTask task
  pub is_of_task : is_mapping task mapping ≡ true

-- the abstraction of the task by the mapping
abbrev pub abstraction_for : TaskMapping → Abstraction
abstraction_for m = abstraction_by m.task m.mapping

pub task_mapping_abstracts : (m : TaskMapping) → IsAbstractionOf m.task (abstraction_for m)
task_mapping_abstracts m = abstracts m.task m.is_task m.mapping m.is_of_task
