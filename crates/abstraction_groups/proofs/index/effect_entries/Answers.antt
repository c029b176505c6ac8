use Rattle.std.proofs.Common.{◌≡◌, ◌+◌, ◌<◌, ◌++◌, List, length, get_or, sym, ap, ◌∙◌, subst, arith, Some}
use Rattle.std.specs.Prelude.{slice_get}
use Rattle.std.proofs.lemmas.Option.{slice_get-get_or}
use Rattle.fdr.specs.declared.fact.Fact.{Fact}
use Rattle.fdr.specs.Tasks.{Operator, ranges, IsOperator}
use Rattle.abstraction_groups.specs.Indexes.{entries_of, AreEffects}
use Rattle.abstraction_groups.proofs.IndexLaws.{effects_more}
use Rattle.abstraction_groups.proofs.index.effect_entries.Goals as goal

pub loop-number-preserved : goal.loop-number-preserved
loop-number-preserved c =
    let task = c.args.task.now in
    let n = c.loop-number.number in
    let op : Operator = c.index-operators-number.result in
    let ops : c.operators-operators.result.now ≡ task.operators = c.operators-operators.ensures.value in
    let is : op ≡ get_or task.operators n op = c.index-operators-number.is ∙ ap (λ (xs : List Operator). get_or xs n op) ops in
    let l : n < length task.operators = let long = ap length ops in omega arith in
    let at : slice_get task.operators n ≡ Some op = slice_get-get_or task.operators n op l ∙ ap Some (sym is) in
    let effect : c.deref.result.now ≡ op.effect = c.deref.ensures.value ∙ ap (λ (o : Operator). o.effect) c.operator.view_is in
    let well : IsOperator (ranges task) op = subst (IsOperator (ranges task)) (sym is) (c.recall.ensures.task.operators n op l) in
    let made : c.append_effects.new.entries.items ≡ c.loop-number.entries.items ++ entries_of n c.deref.result.now = c.in_ok-append_effects.ensures in
    subst (AreEffects task (n + 1)) (sym (made ∙ ap (λ (fs : List Fact). c.loop-number.entries.items ++ entries_of n fs) effect))
    (effects_more task n op at well.effect c.loop-number.entries.items c.loop-number.invariant)
