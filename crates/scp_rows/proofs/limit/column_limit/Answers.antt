use Rattle.std.proofs.Common.{ap, subst, arith}
use Rattle.cost.specs.Distances.{IsWithin}
use Rattle.abstraction.specs.Abstractions.{value_at}
use Rattle.cert_value.specs.Certificates.{Table}
use Rattle.scp_columns.specs.ColumnTables.{on_abstraction}
use Rattle.scp_rows.proofs.Values.{whole_total}
use Rattle.scp_rows.proofs.Limits.{limit_more}
use Rattle.scp_rows.proofs.limit.column_limit.Goals as goal

pub loop-table-preserved : goal.loop-table-preserved
loop-table-preserved c = (
  limit_more c.loop-table.limit c.values_limit-limit.result c.args.column.now c.loop-table.table-index c.table-item.result c.table.result.now.values
      c.loop-table-test.true c.table-item.is (ap (λ (t : Table). t.values) c.table.ensures.table) c.values_limit-limit.ensures.within c.loop-table.invariant.0,
  omega (arith, c.loop-table.invariant.1, c.values_limit-limit.ensures.small),
)

pub returns-clause-within : goal.returns-clause-within
returns-clause-within c state =
    subst (IsWithin c.loop-table.limit) (whole_total (value_at state) on_abstraction c.args.column.now c.loop-table.table-index c.loop-table-test.false) (c.loop-table.invariant.0 state)
