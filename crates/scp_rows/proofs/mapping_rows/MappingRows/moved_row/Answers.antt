use Rattle.std.proofs.Common.{◌≡◌, ℕ, ◌+◌, ◌<◌, ◌≤◌, ◌∙◌, length, map, ap, sym, arith}
use Rattle.std.specs.Prelude.{slice_index}
use Rattle.fdr.specs.Tasks.{ranges, IsState, step}
use Rattle.abstraction.specs.Steps.{step_keeps_state}
use Rattle.abstraction_mapping.specs.Mappings.{abstraction_by}
use Rattle.abstraction_mapping.specs.MappingLaws.{mapping_is_small}
use Rattle.abstraction_mapping.specs.TaskMappings.{abstraction_for, task_mapping_abstracts}
use Rattle.abstraction_mapping.specs.Views.{abstraction_in}
use Rattle.scp_rows.specs.Rows.{word_in}
use Rattle.scp_rows.proofs.RowLists.{word_read}
use Rattle.scp_rows.proofs.TouchLaws.{at_some}
use Rattle.scp_rows.proofs.mapping_rows.MappingRows.moved_row.Goals as goal

pub after-requires-clause-small : goal.after-requires-clause-small
after-requires-clause-small g c =
    let m = c.self.inside.mapping in
    let a = c.self.inside.abstraction in
    let ok = rw (← c.self.view_is) at c.requires.state in
    let is : c.args.index ≡ (abstraction_for m).index c.args.state.now = rw (← c.self.view_is) at c.requires.index in
    let size : (abstraction_in a).size ≡ (abstraction_for m).size = λ j. (abstraction_by (c.self.invariant.1 j) (c.self.invariant.2 j)).size in
    omega (arith, (task_mapping_abstracts m).indices c.args.state.now ok, is, size, mapping_is_small a)

pub after-requires-clause-applies : goal.after-requires-clause-applies
after-requires-clause-applies g c =
    let m = c.self.inside.mapping in
    let ok = rw (← c.self.view_is) at c.requires.state in
    let is : c.args.index ≡ (abstraction_for m).index c.args.state.now = rw (← c.self.view_is) at c.requires.index in
    let leads = rw (← c.self.view_is) at c.requires.leads in
    let shift = rw (← c.self.view_is) at c.requires.shift in
    omega (arith, is, shift c.args.state.now leads.0 ok leads.1)

pub index-requires : goal.index-requires
index-requires g c =
    let m = c.self.inside.mapping in
    let ok = rw (← c.self.view_is) at c.requires.state in
    let is : c.args.index ≡ (abstraction_for m).index c.args.state.now = rw (← c.self.view_is) at c.requires.index in
    let leads = rw (← c.self.view_is) at c.requires.leads in
    let shift = rw (← c.self.view_is) at c.requires.shift in
    let next = at_some (IsState (ranges m.task)) (step m.task c.args.state.now c.args.operator) leads.0 leads.1 (step_keeps_state m.task m.is_task c.args.state.now c.args.operator ok) in
    omega (arith, is, shift c.args.state.now leads.0 ok leads.1, c.after.ensures, (task_mapping_abstracts m).indices leads.0 next, c.self.invariant.0)

pub returns : goal.returns
returns g c =
    let ok = rw (← c.self.view_is) at c.requires.state in
    let is : c.args.index ≡ (abstraction_for c.self.inside.mapping).index c.args.state.now = rw (← c.self.view_is) at c.requires.index in
    let shift = rw (← c.self.view_is) at c.requires.shift in
    rw (← c.self.view_is) (λ next leads lane.
    let m = c.self.inside.mapping in
    let words = g.R.Row.words in
    let rows = c.self.inside.rows.items in
    let there = at_some (IsState (ranges m.task)) (step m.task c.args.state.now c.args.operator) next leads (step_keeps_state m.task m.is_task c.args.state.now c.args.operator ok) in
    let same : c.after.result ≡ (abstraction_for m).index next = omega (arith, is, shift c.args.state.now next ok leads, c.after.ensures) in
    let within : c.after.result < length rows = omega (arith, same, (task_mapping_abstracts m).indices next there, c.self.invariant.0) in
    let read = word_read words rows c.after.result lane c.index.result.now within in
    ap (λ r. slice_index (words r) lane) c.index.ensures ∙ sym read ∙ ap (λ i. word_in (map words rows) i lane) same)
