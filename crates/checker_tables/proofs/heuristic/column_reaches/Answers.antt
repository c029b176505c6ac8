use Rattle.std.proofs.Common.{drop, map, sym, ◌∙◌}
use Rattle.abstraction.specs.Columns.{column_value}
use Rattle.checker_tables.specs.MappedTables.{on_abstraction}
use Rattle.checker_tables.proofs.BoundLaws.{nothing_left}
use Rattle.checker_tables.proofs.heuristic.column_reaches.Goals as goal

pub returns-then-eq : goal.returns-then-eq
returns-then-eq c =
    sym (nothing_left c.loop-table.rest (sym c.eq.ensures ∙ c.if-eq.true) (column_value c.args.state.now (map on_abstraction (drop c.loop-table.table-index c.args.column.now))))
    ∙ c.loop-table.invariant
