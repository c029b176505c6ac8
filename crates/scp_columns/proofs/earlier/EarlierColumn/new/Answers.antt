use Rattle.std.proofs.Common.{◌≡◌, ◌-◌, ◌+◌, ◌++◌, ◌∷◌, [], ℕ, List, drop, take, length, map, slice_index, get_or, ap, ◌∙◌, sym, subst, arith}
use Rattle.std.specs.Vec.{with_items}
use Rattle.std.proofs.lemmas.List.{drop_more, take_more, with_items_is}
use Rattle.fdr.specs.Tasks.{cost_of}
use Rattle.checker_clauses.specs.Clauses.{table_of, share_of}
use Rattle.pdb_walks.specs.Walks.{IsPartition}
use Rattle.scp_columns.specs.ColumnTables.{ColumnTable}
use Rattle.scp_columns.specs.EarlierTables.{IsMadeUnder}
use Rattle.scp_columns.proofs.ColumnsSoFar.{tables_in, no_table}
use Rattle.scp_columns.proofs.EarlierTables.{one_more, first_made, others_made}
use Rattle.scp_columns.proofs.earlier.EarlierColumn.new.Goals as goal

pub loop-table-init : goal.loop-table-init
loop-table-init c =
    let task = c.args.task.now in
    let left = c.in_ok-left.left.items in
    let start = no_table task left c.in_ok-left.ensures.len c.in_ok-left.ensures.costs in
    let same : cost_of task ≡ (λ o. slice_index left o) = λ k o. sym (start.left_over o) k in
    record {
      made = rw c.in_ok-costs.ensures.items tt;
      rest = subst (λ (f : ℕ → ℕ). IsPartition f (map (table_of task) (tables_in c.args.tables.now))) same c.requires.made;
      as_long = c.in_ok-left.ensures.len;
    }

pub loop-table-preserved : goal.loop-table-preserved
loop-table-preserved c =
    let task = c.args.task.now in
    let tables = c.args.tables.now in
    let i = c.loop-table.table-index in
    let t = c.table-item.result in
    let ts = drop (i + 1) tables in
    let left = c.loop-table.left.items in
    let rest = c.take_shares.new.left in
    let here : get_or tables i t ≡ t = sym c.table-item.is in
    let split : drop i tables ≡ t ∷ ts = drop_more tables i t c.loop-table-test.true ∙ ap (λ (x : ColumnTable). x ∷ ts) here in
    let given : take (i + 1) tables ≡ take i tables ++ t ∷ [] = take_more tables i t c.loop-table-test.true ∙ ap (λ (x : ColumnTable). take i tables ++ x ∷ []) here in
    let before = subst (λ (xs : List ColumnTable). IsPartition (λ o. slice_index left o) (map (table_of task) (tables_in xs))) split c.loop-table.invariant.rest in
    let of_task = subst (λ (x : ColumnTable). x.task ≡ task) here (c.requires.of_task i t c.loop-table-test.true) in
    let copied = c.in_ok-from_slice.ensures.items ∙ c.deref.ensures.value in
    let shares = c.deref-in-loop-table.ensures.value ∙ ap (λ u. u.shares) c.table.ensures.table in
    let left_is : (o : ℕ) → slice_index rest o ≡ slice_index left o - share_of t.table.shares o = λ o. rw (c.deref_mut.ensures.value, shares) at (c.take_shares.ensures.left o) in
    let kept : (with_items c.loop-table.left rest).items ≡ rest = with_items_is c.loop-table.left rest (omega (arith, c.take_shares.ensures.len, c.deref_mut.ensures.len)) in
    let long : length rest ≡ length task.operators = c.take_shares.ensures.len ∙ ap length c.deref_mut.ensures.value ∙ c.loop-table.invariant.as_long in
    record {
      made = rw (c.in_ok-push.ensures.items, given)
          (one_more (IsMadeUnder task) (take i tables) c.loop-table.costs.items t c.in_ok-from_slice.field-0 c.loop-table.invariant.made
          (first_made task left c.in_ok-from_slice.field-0 t ts copied of_task c.loop-table.invariant.as_long before));
      rest = rw kept (others_made task left rest t ts left_is before);
      as_long = rw kept long;
    }
