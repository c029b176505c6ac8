use Rattle.std.proofs.Common.{◌≡◌, ◌^◌, ◌-◌, min, ap, ◌∙◌, arith, map, length, below_more}
use Rattle.std.specs.Prelude.{slice_index, sum_by}
use Rattle.cert_value.specs.Certificates.{Table}
use Rattle.cert_value.specs.Views as kept
use Rattle.checker_clauses.specs.Clauses.{share_of}
use Rattle.checker_tables.specs.ShareSums.{Tally}
use Rattle.checker_tables.proofs.ForeignLaws.{overspent_fails, existing_passes, foreign_first}
use Rattle.checker_tables.proofs.TallyLaws.{tally_sized, tally_sum, above_cost, within_cost}
use Rattle.checker_tables.proofs.shares.first_overspent.Goals as goal

pub sum-requires : goal.sum-requires
sum-requires c =
    let sized = tally_sized c.operator_count.result (map kept.table_of c.args.column.now) in
    let same = ap (λ (t : Tally). length t.sums) c.in_ok-sums.ensures in
    omega arith

pub returns-then-sum-get : goal.returns-then-sum-get
returns-then-sum-get c =
    let column = map kept.table_of c.args.column.now in
    let o = c.loop-operator.operator in
    let total = sum_by (λ (t : Table). share_of t.shares o) column in
    let sum : c.sum.result ≡ min total (2 ^ 64 - 1) =
    c.sum.ensures ∙ ap (λ (t : Tally). slice_index t.sums o) c.in_ok-sums.ensures ∙ tally_sum o c.operator_count.result (omega arith) column
    in (
      overspent_fails c.args.task.now column o (rw (← c.cost.ensures, ← c.get.ensures.value) (above_cost total (2 ^ 64 - 1) c.get.result c.sum.result sum c.if-sum-get.true)),
      c.loop-operator.invariant,
    )

pub loop-operator-preserved : goal.loop-operator-preserved
loop-operator-preserved c =
    let column = map kept.table_of c.args.column.now in
    let o = c.loop-operator.operator in
    let total = sum_by (λ (t : Table). share_of t.shares o) column in
    let sum : c.sum.result ≡ min total (2 ^ 64 - 1) =
    c.sum.ensures ∙ ap (λ (t : Tally). slice_index t.sums o) c.in_ok-sums.ensures ∙ tally_sum o c.operator_count.result (omega arith) column
    in
    below_more _ _ c.loop-operator.invariant
    (existing_passes c.args.task.now column o (omega arith)
    (rw (← c.cost.ensures, ← c.get.ensures.value) (within_cost total (2 ^ 64 - 1) c.get.result c.sum.result sum c.if-sum-get.false (omega (arith, c.get.ensures.bound)))))

pub returns : goal.returns
returns c =
    foreign_first c.args.task.now (map kept.table_of c.args.column.now)
    (λ m l. c.loop-operator.invariant m (omega (arith, l, c.operator_count-operator-end.ensures, c.loop-operator-test.false)))
    c.least_of_column.result (rw (← c.operator_count-2.ensures) c.least_of_column.ensures)
