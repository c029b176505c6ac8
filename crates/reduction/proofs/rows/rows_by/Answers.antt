use Rattle.std.proofs.Common.{◌≡◌, ℕ, Bool, [], List, length, sym, ap, subst, ◌∙◌, arith}
use Rattle.std.specs.Prelude.{slice_index_or}
use Rattle.std.specs.List.{range_with_len}
use Rattle.std.proofs.lemmas.List.{length-map}
use Rattle.std.proofs.lemmas.List.FromFn.{length-range_with_len}
use Rattle.std.proofs.lemmas.Result.{IfOk-weaker}
use Rattle.abstraction_domain.specs.Rows.{Row, classes_in}
use Rattle.fdr.specs.Tasks.{ranges}
use Rattle.reduction.specs.Facts.{is_in}
use Rattle.reduction.specs.Asked.{AreClassesBy}
use Rattle.reduction.specs.Rows.{ShareBy}
use Rattle.reduction.proofs.ClassRows.{AreRows, rows_none, rows_more, classes_by_rows, row_small}
use Rattle.reduction.proofs.rows.rows_by.Goals as goal

pub loop-variable-init : goal.loop-variable-init
loop-variable-init c = subst (λ (rows : List Row). AreRows (ranges c.args.task.now) c.args.asked.now 0 rows) (sym c.in_ok-rows.ensures.items) (rows_none (ranges c.args.task.now) c.args.asked.now)

pub classes_by-requires : goal.classes_by-requires
classes_by-requires c =
    let small = row_small c.args.task.now c.args.asked.now c.loop-variable.variable c.requires c.recall.ensures.limits (omega arith) in
    omega (arith, small, ap (λ (row : List Bool). length row) c.values_of.ensures)

pub unreachable-requires : goal.unreachable-requires
unreachable-requires c =
    let m = c.in-Err.ensures.misnumbered in
    m.misnumbered (c.in_ok-classes.ensures.numbered _ m.within)

pub loop-variable-preserved : goal.loop-variable-preserved
loop-variable-preserved c =
    let shared : ShareBy (slice_index_or c.args.asked.now c.loop-variable.variable []) c.in_ok-classes.classes.items =
    subst (λ (row : List Bool). ShareBy row c.in_ok-classes.classes.items) c.values_of.ensures c.in_ok-classes.ensures.shared in
    rows_more (ranges c.args.task.now) c.args.asked.now c.loop-variable.variable c.loop-variable.rows.items c.push.new.self.items c.in-Ok.row c.in_ok-classes.classes.items c.loop-variable.invariant
    (omega (arith, length-map c.args.task.now.value_names length)) c.requires c.in-Ok.ensures.row c.in_ok-classes.ensures.numbered (c.in_ok-classes.ensures.len ∙ ap (λ (row : List Bool). length row) c.values_of.ensures) shared c.in_ok-push-in-Ok.ensures.items

pub new-requires-2 : goal.new-requires-2
new-requires-2 c =
    let rows = c.loop-variable.rows.items in
    let order = c.loop-variable.invariant.in_order in
    let count : c.loop-variable.variable ≡ length c.loop-variable.rows.items =
    omega (arith, ap (λ (vs : List ℕ). length vs) c.loop-variable.invariant.in_order, length-map c.loop-variable.rows.items (λ (r : Row). r.variable), length-range_with_len 0 c.loop-variable.variable) in
    order ∙ ap (range_with_len 0) count

pub returns : goal.returns
returns c =
    IfOk-weaker c.new-2.result (λ made. made ≡ classes_in c.loop-variable.rows.items) (AreClassesBy (ranges c.args.task.now) (is_in c.args.asked.now))
    (λ made e. classes_by_rows (ranges c.args.task.now) c.args.asked.now c.loop-variable.variable c.loop-variable.rows.items made c.loop-variable.invariant (omega (arith, length-map c.args.task.now.value_names length)) c.requires e) c.new-2.ensures
