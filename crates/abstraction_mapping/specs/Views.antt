-- The values that represent the types of the crate in contracts.
use Rattle.fdr.specs.Tasks.{FiniteDomainTask, ranges}
use Rattle.std.specs.Prelude.{ℕ, List}
use Rattle.abstraction.specs.Abstractions.{Abstraction}
use Rattle.abstraction_mapping.specs.Mappings.{Mapping, Pattern, Domains, abstraction_by, counts_by}
use Rattle.abstraction_mapping.specs.declared.mapping.Mapping.{Mapping as KeptMapping}
use Rattle.abstraction_mapping.specs.declared.mapping.Mapping.TheVariants as kept
use Rattle.abstraction_mapping.specs.declared.table.TableAbstraction.{TableAbstraction}
use Rattle.abstraction_mapping.specs.declared.table.TableAbstraction.TheVariants as table

abbrev pub mapping_of : KeptMapping → Mapping
mapping_of (kept.Pattern pattern) = Pattern pattern.items
mapping_of (kept.Domains rows) = Domains rows.items

abbrev pub task_in : TableAbstraction → FiniteDomainTask
task_in (table.Projection p) = p.task
task_in (table.Domain d) = d.task

abbrev pub mapping_in : TableAbstraction → Mapping
mapping_in (table.Projection p) = Pattern p.pattern
mapping_in (table.Domain d) = Domains d.rows

abbrev pub abstraction_in : TableAbstraction → Abstraction
abstraction_in a = abstraction_by (task_in a) (mapping_in a)

-- the number of values or classes of each variable
abbrev pub counts_in : TableAbstraction → List ℕ
counts_in a = counts_by (mapping_in a) (ranges (task_in a))
