use Rattle.std.proofs.Common.{◌∙◌, sym}
use Rattle.abstraction_mapping.specs.TaskMappings.{abstraction_for, task_mapping_abstracts}
use Rattle.scp_rows.proofs.TouchLaws.{same_index}
use Rattle.scp_rows.proofs.mapping_rows.MappingRows.touches.Goals as goal

pub returns : goal.returns
returns g c = rw (← c.self.view_is) (λ untouched state next ok leads.
    let a = c.self.inside.mapping in
    same_index a.task (abstraction_for a) (task_mapping_abstracts a) state next c.args.operator ok leads (sym c.touches.ensures ∙ untouched))
