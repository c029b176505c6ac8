use Rattle.abstraction_mapping.specs.Mappings.{Domains}
use Rattle.abstraction_mapping.specs.TestedMappings.{increasing}
use Rattle.abstraction_mapping.proofs.task_mapping.TaskMapping.index.Goals as goal

pub class_index-requires-clause-increasing : goal.class_index-requires-clause-increasing
class_index-requires-clause-increasing c =
    let is = rw c.in-Domains.is at c.self.inside.is_of_task in
    rw c.deref-in-Domains.ensures.value (increasing c.self.inside.task.now (Domains c.in-Domains.rows.items) is)
