use Rattle.std.proofs.Common.{◌≡◌, ℕ, ◌<◌, false, length, sym, ◌∙◌, arith}
use Rattle.std.specs.Prelude.{slice_index, slice_index_or}
use Rattle.std.proofs.lemmas.List.{length-map}
use Rattle.fdr.specs.Tasks.{ranges}
use Rattle.pdb_refinement.specs.Classes.{class_in, with_row, IsSplitAt}
use Rattle.pdb_refinement.proofs.Ranges.{short_range}
use Rattle.pdb_refinement.proofs.Splits.{refine_with, apart_with, rows_with}
use Rattle.pdb_refinement.proofs.split.split.Goals as goal

pub split_classes-requires-clause-small : goal.split_classes-requires-clause-small
split_classes-requires-clause-small c =
    omega (arith, short_range c.args.task.now c.recall.ensures.limits c.args.flaw.now.variable, c.in_ok-classes.ensures.len, c.deref-3.ensures.len)

pub returns : goal.returns
returns c =
    let task = c.args.task.now in
    let banned = c.args.banned.now in
    let rows = c.args.rows.now.items in
    let r = c.numbered_row-row.result in
    let v = c.args.flaw.now.variable in
    let wanted = c.args.flaw.now.wanted in
    let present = c.args.flaw.now.present in
    let classes = c.in_ok-classes.classes.items in
    let named : r.variable ≡ v = c.numbered_row-row.ensures.variable in
    let split : IsSplitAt classes wanted r.classes = rw (c.numbered_row-row.ensures.classes) (rw c.deref-3.ensures.value at c.in_ok-split.ensures) in
    let as_long : length classes ≡ slice_index (ranges task) r.variable = rw named c.in_ok-classes.ensures.len in
    let are : (x : ℕ) → slice_index classes x ≡ class_in rows r.variable x = rw (named, ← c.deref.ensures.value) c.in_ok-classes.ensures.classes in
    let exists : r.variable < length (ranges task) =
    omega (arith, c.if-variable-variable_count.false, c.variable_count.ensures, named, length-map task.value_names (λ names. length names)) in
    let allowed : slice_index_or banned r.variable false ≡ false = rw named (sym c.is_set.ensures ∙ c.if-is_set.false) in
    let within : present < length classes = omega (arith, c.if-present-len.false, c.len-len.ensures) in
    let apart : class_in (with_row r rows) v wanted ≡ class_in (with_row r rows) v present → wanted ≡ present =
    rw (← named) (apart_with task rows r classes wanted split as_long are present within) in
    rw c.in_ok-put_row.ensures (record {
      rows = rows_with task rows r classes wanted split as_long are banned exists allowed c.requires.rows;
      refined = refine_with task rows r classes wanted split as_long are;
      same = λ e. (cc e);
      apart = λ e same. c.if-wanted-present.false (apart same);
    })
