use Rattle.std.proofs.Common.{◌≡◌, ◌<◌, length, arith}
use Rattle.std.proofs.lemmas.List.{with_items_is}
use Rattle.abstraction_mapping.specs.TaskMappings.{abstraction_for, task_mapping_abstracts}
use Rattle.scp_rows.proofs.RowLists.{table_added}
use Rattle.scp_rows.proofs.mapping_rows.MappingRows.add_table.Goals as goal

pub returns-clause-words : goal.returns-clause-words
returns-clause-words g c = rw (← c.self.view_is) (λ state ok other.
    let a = c.self.inside.mapping in
    let old = c.self.inside.rows.items in
    let new = c.add_values.new.rows in
    let i = (abstraction_for a).index state in
    let kept : (Rattle.std.specs.Vec.with_items c.self.inside.rows new).items ≡ new = with_items_is c.self.inside.rows new (omega (arith, c.add_values.ensures.len, c.deref_mut.ensures.len)) in
    let within : i < length old = omega (arith, (task_mapping_abstracts a).indices state ok, c.self.invariant.0) in
    let at = rw c.deref_mut.ensures.value at c.add_values.ensures.lane in
    let else = rw c.deref_mut.ensures.value at c.add_values.ensures.others in
    rw kept (table_added g.R.Row.words g.R.Row.most c.args.lane old new c.args.values.now i other (at i within) (else i other)))
