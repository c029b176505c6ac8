use Rattle.scp.proofs.JoinedColumns.{first_partition}
use Rattle.scp.proofs.columns.columns_beside.Goals as goal

pub new-requires-clause-made : goal.new-requires-clause-made
new-requires-clause-made g c =
    let task = c.args.task.now in
    let first = c.in-Some.ensures.item in
    rw c.deref.ensures.value
    (first_partition task c.requires.columns.0 c.args.columns.now c.in-Some.column.now (first.3.0) (first.1) c.requires.columns.1)
