use Rattle.std.proofs.Common.{◌≡◌, ◌<◌, ◌∙◌, length, ap, sym, arith, map}
use Rattle.std.specs.Prelude.{slice_index}
use Rattle.abstraction_mapping.specs.TaskMappings.{abstraction_for, task_mapping_abstracts}
use Rattle.scp_rows.specs.Rows.{word_in}
use Rattle.scp_rows.proofs.RowLists.{word_read}
use Rattle.scp_rows.proofs.mapping_rows.MappingRows.known_row.Goals as goal

pub index-requires : goal.index-requires
index-requires g c =
    let is = rw (← c.self.view_is) at c.requires.index in
    let ok = rw (← c.self.view_is) at c.requires.state in
    omega (arith, (task_mapping_abstracts c.self.inside.mapping).indices c.args.state.now ok, c.self.invariant.0, is)

pub returns : goal.returns
returns g c = rw (← c.self.view_is) (λ lane.
    let a = c.self.inside.mapping in
    let words = g.R.Row.words in
    let rows = c.self.inside.rows.items in
    let is : c.args.index ≡ (abstraction_for a).index c.args.state.now = rw (← c.self.view_is) at c.requires.index in
    let ok = rw (← c.self.view_is) at c.requires.state in
    let within : c.args.index < length rows = omega (arith, (task_mapping_abstracts a).indices c.args.state.now ok, c.self.invariant.0, is) in
    let read = word_read words rows c.args.index lane c.index.result.now within in
    ap (λ r. slice_index (words r) lane) c.index.ensures ∙ sym read ∙ ap (λ i. word_in (map words rows) i lane) is)
