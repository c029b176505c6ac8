use Rattle.std.proofs.Common.{◌≡◌, ℕ, ◌<◌, ◌++◌, List, Option, None, length, get_or, ap, subst, ◌∙◌, arith}
use Rattle.std.specs.Prelude.{slice_index_or}
use Rattle.std.specs.List.{flat_map}
use Rattle.fdr.specs.declared.fact.Fact.{Fact}
use Rattle.fdr.specs.Tasks.{Operator}
use Rattle.abstraction.specs.Facts.{value_in}
use Rattle.reduction.specs.Waiting.{AreEntries, value_entries, variable_entries}
use Rattle.reduction.proofs.LoopLaws.{entries_step, written}
use Rattle.reduction.proofs.entries.Entries.new.Goals as goal

pub loop-number-preserved : goal.loop-number-preserved
loop-number-preserved c =
    let task = c.args.task.now in
    let n = c.loop-number.number in
    let op : Operator = c.index-operators-number.result in
    let ops : c.operators-operators.result.now ≡ c.args.task.now.operators = c.operators-operators.ensures.value in
    let l : c.loop-number.number < length c.args.task.now.operators = subst (λ (xs : List Operator). c.loop-number.number < length xs) ops c.loop-number-test.true in
    let is : op ≡ get_or c.args.task.now.operators c.loop-number.number op = c.index-operators-number.is ∙ ap (λ (xs : List Operator). get_or xs c.loop-number.number op) ops in
    let conditions : c.deref.result.now ≡ op.precondition = c.deref.ensures.value ∙ ap (λ (o : Operator). o.precondition) c.operator.view_is in
    let effect : c.deref-in-loop-number-2.result.now ≡ op.effect = c.deref-in-loop-number-2.ensures.value ∙ ap (λ (o : Operator). o.effect) c.operator.view_is in
    let set : List (Option ℕ) = c.set_values.new.values in
    let values : List (Option ℕ) = c.deref-in-loop-number.result.now in
    let long : length c.set_values.new.values ≡ c.loop-number.values.len =
    omega (arith, c.set_values.ensures.len, ap (λ (xs : List (Option ℕ)). length xs) c.deref_mut.ensures.value, c.loop-number.values.ok.0) in
    let same : c.deref-in-loop-number.result.now ≡ c.set_values.new.values = c.deref-in-loop-number.ensures.value ∙ written c.loop-number.values.len c.set_values.new.values _ long in
    let read : (v : ℕ) → slice_index_or c.deref-in-loop-number.result.now v None ≡ value_in op.precondition v =
    λ v. ap (λ (xs : List (Option ℕ)). slice_index_or xs v None) same ∙ c.set_values.ensures.values v ∙ ap (λ (fs : List Fact). value_in fs v) conditions in
    let again : length c.clear_values.new.values ≡ c.loop-number.values.len =
    c.clear_values.ensures.len ∙ ap (λ (xs : List (Option ℕ)). length xs) (c.deref_mut-in-loop-number.ensures.value ∙ written c.loop-number.values.len c.set_values.new.values _ long) ∙ long in
    record {
      entries = entries_step task n op c.loop-number.entries.by_value.items c.push_all.new.self.by_value.items c.loop-number.entries.by_variable.items c.push_all.new.self.by_variable.items values l is c.recall.ensures.task.operators read
          c.loop-number.invariant.entries
          (c.in_ok-push_all.ensures.by_value ∙ ap (λ (fs : List Fact). c.loop-number.entries.by_value.items ++ flat_map (λ e. value_entries c.loop-number.number (slice_index_or c.deref-in-loop-number.result.now e.variable None) e) fs) effect)
          (c.in_ok-push_all.ensures.by_variable ∙ ap (λ (fs : List Fact). c.loop-number.entries.by_variable.items ++ flat_map (λ e. variable_entries c.loop-number.number (slice_index_or c.deref-in-loop-number.result.now e.variable None) e) fs) effect);
      none = λ v. ap (λ (xs : List (Option ℕ)). slice_index_or xs v None) (written c.loop-number.values.len c.clear_values.new.values _ again) ∙ c.clear_values.ensures.none v;
      long = ap (λ (xs : List (Option ℕ)). length xs) (written c.loop-number.values.len c.clear_values.new.values _ again) ∙ again ∙ omega (arith, c.loop-number.values.ok.0, c.loop-number.invariant.long);
    }

pub returns : goal.returns
returns c =
    let whole : c.loop-number.number ≡ length c.args.task.now.operators =
    omega (arith, c.loop-number-test.false, c.loop-number.auto.number-end, ap (λ (xs : List Operator). length xs) c.operators-operators.ensures.value) in
    subst (λ (n : ℕ). AreEntries c.args.task.now n c.loop-number.entries.by_value.items c.loop-number.entries.by_variable.items) whole c.loop-number.invariant.entries
