use Rattle.reduction.proofs.RowLaws.{IsRow}
use Rattle.reduction.proofs.rows.classes_by.Given as goal

abbrev pub invariant-loop-value : goal.invariant-loop-value
invariant-loop-value l = IsRow l.asked l.value l.next l.others l.classes.items
