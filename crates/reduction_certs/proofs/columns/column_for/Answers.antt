use Rattle.std.proofs.Common.{All, map, sym, subst, arith}
use Rattle.cert_value.specs.Certificates.{Table}
use Rattle.cert_value.specs.Views.{table_of}
use Rattle.reduction_certs.specs.InTask.{HasNumberedRows, table_in_task}
use Rattle.reduction_certs.proofs.Making.{one_more, one_more_numbered, none_left, numbered_before}
use Rattle.reduction_certs.proofs.columns.column_for.Goals as goal

pub loop-table-preserved : goal.loop-table-preserved
loop-table-preserved c = (
  one_more table_of (table_in_task c.args.representatives.now) c.loop-table.made.items c.push.new.self.items c.args.column.items c.loop-table.table-iterator.rest.items c.next.new.self.rest.items c.in-Some.table c.in_ok-table_for.field-0
      c.loop-table.invariant.0 c.in-Some.ensures.steps.0 c.in_ok-table_for.ensures.table c.in_ok-push.ensures.items,
  one_more_numbered (λ (t : Table). HasNumberedRows t.mapping) table_of c.loop-table.made.items c.push.new.self.items c.in_ok-table_for.field-0 c.loop-table.invariant.1
      (subst (λ (t : Table). HasNumberedRows t.mapping) (sym c.in_ok-table_for.ensures.table) c.table_for.ensures.numbered) c.in_ok-push.ensures.items,
)

pub returns-clause-numbered : goal.returns-clause-numbered
returns-clause-numbered c =
    numbered_before c.args.representatives.now (map table_of c.args.column.items)
    (subst (All (λ (t : Table). HasNumberedRows t.mapping))
    (none_left table_of (table_in_task c.args.representatives.now) c.loop-table.made.items c.args.column.items c.loop-table.table-iterator.rest.items c.loop-table.invariant.0 (omega (arith, c.in-None.ensures.steps.0, c.loop-table.table-iterator.rest.ok.0))) c.loop-table.invariant.1)
