use Rattle.std.proofs.Common.{◌≡◌, ◌∙◌, ap}
use Rattle.std.proofs.lemmas.List.Elements.{All-push}
use Rattle.cert_value.specs.Views as kept
use Rattle.checker_tables.specs.MappedTables.{MappedTable}
use Rattle.checker_tables.proofs.ColumnLaws.{map_push}
use Rattle.checker_tables.proofs.heuristic.mapped_column.Goals as goal

pub loop-table-preserved : goal.loop-table-preserved
loop-table-preserved c =
    let made = rw c.in-Some.is at c.in_ok-table.ensures in
    record {
      tables = rw c.in_ok-push-in-Some.ensures.items (
          map_push (λ (t : MappedTable). t.table) kept.table_of c.loop-table.made.items c.in-Some.table c.args.column.now c.loop-table.table-index c.table-item.result c.loop-table-test.true (made.1 ∙ ap kept.table_of c.table-item.is)
          ∙ c.loop-table.invariant.tables);
      task = rw c.in_ok-push-in-Some.ensures.items (All-push (λ (t : MappedTable). t.task ≡ c.args.task.now) c.loop-table.made.items c.in-Some.table c.loop-table.invariant.task made.0);
    }
