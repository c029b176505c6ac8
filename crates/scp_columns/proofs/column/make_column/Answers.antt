use Rattle.std.proofs.Common.{ℕ, ◌-◌, slice_index, ◌≡◌, ◌<◌, ◌+◌, ◌++◌, ◌∷◌, [], List, length, map, take, get_or, ap, ◌∙◌, sym, arith}
use Rattle.std.specs.Vec.{with_items}
use Rattle.std.proofs.lemmas.List.{take_more, get_or-map, length-map, with_items_is}
use Rattle.checker_clauses.specs.Clauses.{share_of}
use Rattle.abstraction_mapping.specs.Mappings.{Mapping}
use Rattle.abstraction_mapping.specs.Views.{mapping_of}
use Rattle.scp_columns.proofs.ColumnsSoFar.{no_table, one_table_more}
use Rattle.scp_columns.proofs.column.make_column.Goals as goal

pub loop-mapping-init : goal.loop-mapping-init
loop-mapping-init c = rw c.in_ok-column.ensures.items (no_table c.args.task.now c.in_ok-left.left.items c.in_ok-left.ensures.len c.in_ok-left.ensures.costs)

pub loop-mapping-preserved : goal.loop-mapping-preserved
loop-mapping-preserved c =
    let place = c.loop-mapping.mapping-index in
    let all : List Mapping = map mapping_of c.args.mappings.now in
    let mapping : Mapping = mapping_of c.mapping-item.result in
    let rest = c.take_shares.new.left in
    let within : place < length all = omega (arith, c.loop-mapping-test.true, length-map c.args.mappings.now mapping_of) in
    let here : get_or all place mapping ≡ mapping = get_or-map mapping_of c.args.mappings.now place c.mapping-item.result mapping c.loop-mapping-test.true ∙ ap mapping_of (sym c.mapping-item.is) in
    let given : take (place + 1) all ≡ take place all ++ mapping ∷ [] = take_more all place mapping within ∙ ap (λ m. take place all ++ m ∷ []) here in
    let long : length rest ≡ length c.loop-mapping.left.items = c.take_shares.ensures.len ∙ ap length c.deref_mut.ensures.value in
    let next = rw c.deref.ensures.value at c.in_ok-table.ensures.next in
    let left : (o : ℕ) → slice_index rest o ≡ slice_index c.loop-mapping.left.items o - share_of c.in_ok-table.table.table.shares o =
    λ o. rw (c.deref_mut.ensures.value, c.deref-in-loop-mapping.ensures.value ∙ ap (λ t. t.shares) c.table.ensures.table) at (c.take_shares.ensures.left o) in
    let kept : (with_items c.loop-mapping.left rest).items ≡ rest = with_items_is c.loop-mapping.left rest (omega (arith, c.take_shares.ensures.len, c.deref_mut.ensures.len)) in
    rw (given, kept, c.in_ok-push.ensures.items)
    (one_table_more c.args.task.now (take place all) c.loop-mapping.left.items c.loop-mapping.column.items c.loop-mapping.invariant mapping c.in_ok-table.table c.in_ok-table.ensures.task next rest left long)
