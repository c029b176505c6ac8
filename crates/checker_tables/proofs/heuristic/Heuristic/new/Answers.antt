use Rattle.std.proofs.Common.{◌≡◌, ◌∙◌, ap, map, All}
use Rattle.std.proofs.lemmas.List.Elements.{All-push}
use Rattle.std.specs.Prelude.{Vec}
use Rattle.std.specs.Global.{Global}
use Rattle.cert_value.specs.Views as kept
use Rattle.checker_tables.specs.MappedTables.{MappedTable, tables_of}
use Rattle.checker_tables.proofs.ColumnLaws.{map_push, column_forms}
use Rattle.checker_tables.proofs.heuristic.Heuristic.new.Goals as goal

pub mapped_column-requires : goal.mapped_column-requires
mapped_column-requires c =
    rw c.deref.ensures.value
    (column_forms c.args.task.now c.args.certificate.now c.requires c.columns-column-items.result.now c.columns-column-items.ensures
    c.loop-column.column-index c.column-item.result c.loop-column-test.true c.column-item.is)

pub loop-column-preserved : goal.loop-column-preserved
loop-column-preserved c =
    record {
      tables = rw c.in_ok-push.ensures.items (
          map_push tables_of kept.column_of c.loop-column.columns.items c.in_ok-mapped_column.field-0 c.columns-column-items.result.now c.loop-column.column-index c.column-item.result c.loop-column-test.true
          (c.in_ok-mapped_column.ensures.tables ∙ ap (λ ts. map kept.table_of ts) c.deref.ensures.value ∙ ap kept.column_of c.column-item.is)
          ∙ c.loop-column.invariant.tables);
      task = rw c.in_ok-push.ensures.items (
          All-push (λ (column : Vec MappedTable Global). All (λ (t : MappedTable). t.task ≡ c.args.task.now) column.items) c.loop-column.columns.items c.in_ok-mapped_column.field-0 c.loop-column.invariant.task c.in_ok-mapped_column.ensures.task);
    }
