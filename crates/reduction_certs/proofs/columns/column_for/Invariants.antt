use Rattle.std.proofs.Common.{◌≡◌, ◌++◌, All, map}
use Rattle.cert_value.specs.Certificates.{Table}
use Rattle.cert_value.specs.Views.{table_of}
use Rattle.reduction_certs.specs.InTask.{HasNumberedRows, table_in_task}
use Rattle.reduction_certs.proofs.columns.column_for.Given as goal

abbrev pub invariant-loop-table : goal.invariant-loop-table
invariant-loop-table l =
    (map table_of l.made.items ++ map (table_in_task l.representatives) (map table_of l.table-iterator.rest.items) ≡ map (table_in_task l.representatives) (map table_of l.fn.column.items)) ×
    All (λ (t : Table). HasNumberedRows t.mapping) (map table_of l.made.items)
