use Rattle.std.proofs.Common.{ap}
use Rattle.cert_value.specs.Certificates.{Table}
use Rattle.abstraction_mapping.specs.Views.{mapping_of}
use Rattle.scp_rows.proofs.Blocks.{table_gains}
use Rattle.scp_rows.proofs.block.add_table.Goals as goal

pub returns : goal.returns
returns g c =
    table_gains c.args.task.now g.R.Row.most c.args.lane c.args.rows.now.items c.rows_of.new.rows.items c.in_ok-place.place
    c.index_mut.result.now c.add_table.new.self c.args.table.now c.table-table.result.now.values (mapping_of c.table-table.result.now.mapping)
    c.requires.task c.in_ok-place.ensures.of_task c.in_ok-place.ensures.sums c.in_ok-place.ensures.place (ap (λ (t : Table). t.mapping) c.table-table.ensures.table)
    c.index_mut.ensures.value c.add_table.ensures.task (ap (λ (t : Table). t.values) c.table-table.ensures.table) c.add_table.ensures.words
