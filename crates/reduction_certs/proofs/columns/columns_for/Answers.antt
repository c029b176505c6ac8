use Rattle.std.proofs.Common.{All, map, sym, subst, arith}
use Rattle.std.proofs.lemmas.List.Elements.{All-map}
use Rattle.cert_value.specs.Certificates.{Table}
use Rattle.cert_value.specs.Views.{column_of}
use Rattle.reduction_certs.specs.InTask.{HasNumberedRows, table_in_task}
use Rattle.reduction_certs.proofs.Making.{one_more, one_more_numbered, none_left, all_numbered_before}
use Rattle.reduction_certs.proofs.columns.columns_for.Goals as goal

pub loop-column-preserved : goal.loop-column-preserved
loop-column-preserved c = (
  one_more column_of (map (table_in_task c.args.representatives.now)) c.loop-column.made.items c.push.new.self.items c.args.columns.items c.loop-column.column-iterator.rest.items c.next.new.self.rest.items c.in-Some.column c.in_ok-column_for.field-0
      c.loop-column.invariant.0 c.in-Some.ensures.steps.0 c.in_ok-column_for.ensures.column c.in_ok-push.ensures.items,
  one_more_numbered (All (λ (t : Table). HasNumberedRows t.mapping)) column_of c.loop-column.made.items c.push.new.self.items c.in_ok-column_for.field-0 c.loop-column.invariant.1
      (subst (All (λ (t : Table). HasNumberedRows t.mapping)) (sym c.in_ok-column_for.ensures.column) (All-map (λ (t : Table). HasNumberedRows t.mapping) (table_in_task c.args.representatives.now) (column_of c.in-Some.column) c.in_ok-column_for.ensures.numbered)) c.in_ok-push.ensures.items,
)

pub returns-clause-numbered : goal.returns-clause-numbered
returns-clause-numbered c =
    all_numbered_before c.args.representatives.now (map column_of c.args.columns.items)
    (subst (All (All (λ (t : Table). HasNumberedRows t.mapping)))
    (none_left column_of (map (table_in_task c.args.representatives.now)) c.loop-column.made.items c.args.columns.items c.loop-column.column-iterator.rest.items c.loop-column.invariant.0 (omega (arith, c.in-None.ensures.steps.0, c.loop-column.column-iterator.rest.ok.0))) c.loop-column.invariant.1)
