use Rattle.std.proofs.Common.{◌≡◌, ℕ, ◌<◌, List, length, get_or, sym, ap, ◌∙◌, subst, Some}
use Rattle.std.specs.Prelude.{slice_get, slice_index}
use Rattle.std.proofs.lemmas.Option.{slice_get-get_or}
use Rattle.fdr.specs.Tasks.{Operator, ranges, IsOperator}
use Rattle.reduction_classes.proofs.Loops.{operators_more}
use Rattle.reduction_classes.proofs.classes.Classes.operators.Goals as goal

pub operator-requires : goal.operator-requires
operator-requires c =
    let n : ℕ = slice_index c.args.numbers.now c.loop-number.number-index in
    let op : Operator = c.index-operators-number.result in
    let ops : c.operators-operators.result.now ≡ c.args.task.now.operators = c.operators-operators.ensures.value in
    let l : n < length c.operators-operators.result.now = subst (λ (xs : List Operator). n < length xs) (sym ops) (c.requires.exist c.loop-number.number-index 0 c.loop-number-test.true) in
    subst (λ (rs : List ℕ). IsOperator rs op) (sym c.requires.fit)
    (subst (IsOperator (ranges c.args.task.now)) (sym c.index-operators-number.is) (c.operators-operators.ensures.operators n op l))

pub loop-number-preserved : goal.loop-number-preserved
loop-number-preserved c =
    let i = c.loop-number.number-index in
    let n : ℕ = slice_index c.args.numbers.now i in
    let op : Operator = c.index-operators-number.result in
    let ops : c.operators-operators.result.now ≡ c.args.task.now.operators = c.operators-operators.ensures.value in
    let is : op ≡ get_or c.args.task.now.operators n op = c.index-operators-number.is ∙ ap (λ (xs : List Operator). get_or xs n op) ops in
    let l : n < length c.args.task.now.operators = c.requires.exist i 0 c.loop-number-test.true in
    let at : slice_get c.args.task.now.operators n ≡ Some op = slice_get-get_or c.args.task.now.operators n op l ∙ ap Some (sym is) in
    c.in_ok-push.ensures.items
    ∙ operators_more c.args.self.now c.args.task.now.operators c.args.numbers.now i op c.in_ok-image.image c.loop-number.images.items c.loop-number-test.true at c.in_ok-image.ensures c.loop-number.invariant
