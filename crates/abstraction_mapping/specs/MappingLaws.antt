-- The abstraction of a task by a mapping is an abstraction of the task.
use Rattle.std.specs.Prelude.{◌≤◌, ◌^◌}
use Rattle.abstraction.specs.Abstractions.{IsAbstractionOf}
use Rattle.abstraction.specs.ProjectionLaws.{projection_abstracts}
use Rattle.abstraction_domain.specs.DomainLaws.{domain_abstracts}
use Rattle.abstraction_mapping.specs.declared.table.TableAbstraction.{TableAbstraction}
use Rattle.abstraction_mapping.specs.declared.table.TableAbstraction.TheVariants as table
use Rattle.abstraction_mapping.specs.Views.{task_in, abstraction_in}

pub mapping_abstracts : (a : TableAbstraction) → IsAbstractionOf (task_in a) (abstraction_in a)
mapping_abstracts (table.Projection p) = projection_abstracts p.task p.is_task p.pattern p.exist
mapping_abstracts (table.Domain d) = domain_abstracts d.task d.rows d.is_task d.fit

pub mapping_is_small : (a : TableAbstraction) → (abstraction_in a).size ≤ 2 ^ 24
mapping_is_small (table.Projection p) = p.small
mapping_is_small (table.Domain d) = d.small
