use Rattle.std.proofs.Common.{◌≡◌, ◌++◌, All, map}
use Rattle.cert_value.specs.Certificates.{Table}
use Rattle.cert_value.specs.Views.{column_of}
use Rattle.reduction_certs.specs.InTask.{HasNumberedRows, table_in_task}
use Rattle.reduction_certs.proofs.columns.columns_for.Given as goal

abbrev pub invariant-loop-column : goal.invariant-loop-column
invariant-loop-column l =
    (map column_of l.made.items ++ map (map (table_in_task l.representatives)) (map column_of l.column-iterator.rest.items) ≡ map (map (table_in_task l.representatives)) (map column_of l.fn.columns.items)) ×
    All (All (λ (t : Table). HasNumberedRows t.mapping)) (map column_of l.made.items)
