use Rattle.std.proofs.Common.{◌≡◌, ◌||◌, ap, sym, ◌∙◌, true, false, not, arith}
use Rattle.std.specs.Prelude.{nat_lt}
use Rattle.std.specs.List.{list_any}
use Rattle.abstraction_domain.specs.Rows.{class_count, classes_in, shares_class}
use Rattle.reduction_classes.proofs.Loops.{staying_more, staying_same, numbers_some, numbers_none, any_of_rows}
use Rattle.reduction_classes.proofs.classes.numbering.Goals as goal
use Rattle.reduction_classes.proofs.classes.numbering.Goals.{then-stays+in_ok-push+in_ok-push-2, else-stays+in_ok-push-3}

pub loop-variable-preserved : goal.loop-variable-preserved
loop-variable-preserved c =
    let rows = c.args.rows.now in
    let v = c.loop-variable.variable in
    let r = c.index-rows-variable.result in
    let all = c.all_apart-all_stay.result in
    let all_is : c.all_apart-all_stay.result ≡ not (list_any shares_class (classes_in c.args.rows.now)) = c.all_apart-all_stay.ensures ∙ ap not (any_of_rows c.args.rows.now) in
    let xs = c.loop-variable.staying.items in
    let ns = c.loop-variable.numbers.items in
    elim c.if-stays.branch [
      | then-stays+in_ok-push+in_ok-push-2 w ↦
          let h : (nat_lt 1 (class_count c.index-rows-variable.result.classes) || c.all_apart-all_stay.result) ≡ true = sym c.stays.ensures ∙ w.if-stays.true in
          rw (w.staying-is, w.numbers-is, w.in_ok-push-2.ensures.items, w.in_ok-push.ensures.items) (record {
            staying = staying_more rows v r c.loop-variable-test.true c.index-rows-variable.is all all_is xs ns c.loop-variable.invariant.staying c.loop-variable.invariant.numbers h;
            numbers = numbers_some rows v r c.loop-variable-test.true c.index-rows-variable.is all all_is xs ns c.loop-variable.invariant.staying c.loop-variable.invariant.numbers w.len.result (omega (arith, w.len.ensures, c.loop-variable.staying.ok.0)) h;
          })
      | else-stays+in_ok-push-3 w ↦
          let h : (nat_lt 1 (class_count c.index-rows-variable.result.classes) || c.all_apart-all_stay.result) ≡ false = sym c.stays.ensures ∙ w.if-stays.false in
          rw (w.staying-is, w.numbers-is, w.in_ok-push-3.ensures.items) (record {
            staying = staying_same rows v r c.loop-variable-test.true c.index-rows-variable.is all all_is xs ns c.loop-variable.invariant.staying c.loop-variable.invariant.numbers h;
            numbers = numbers_none rows v r c.loop-variable-test.true c.index-rows-variable.is all all_is xs ns c.loop-variable.invariant.staying c.loop-variable.invariant.numbers h;
          })
    ]
