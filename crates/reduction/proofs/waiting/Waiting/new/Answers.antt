use Rattle.std.proofs.Common.{ℕ, List, length, sym, subst, ◌∙◌}
use Rattle.std.proofs.lemmas.List.{length-map}
use Rattle.keyed_lists.specs.declared.lists.Keyed.{Keyed}
use Rattle.reduction.specs.Waiting.{AreEntries}
use Rattle.reduction.proofs.EntryLaws.{waiting_by}
use Rattle.reduction.proofs.waiting.Waiting.new.Goals as goal

pub invariant_of-result : goal.invariant_of-result
invariant_of-result c =
    let task = c.args.task.now in
    let are : AreEntries c.args.task.now (length c.args.task.now.operators) c.deref.result.now c.deref-2.result.now =
    subst (λ (xs : List (Keyed (Keyed ℕ))). AreEntries c.args.task.now (length c.args.task.now.operators) xs c.deref-2.result.now) (sym c.deref.ensures.value)
    (subst (λ (xs : List (Keyed ℕ)). AreEntries c.args.task.now (length c.args.task.now.operators) c.in_ok-entries.entries.by_value.items xs) (sym c.deref-2.ensures.value) c.in_ok-entries.ensures) in
    waiting_by task c.deref.result.now c.deref-2.result.now c.in_ok-by_value.by_value.items c.in_ok-by_variable.by_variable c.variable_count.result are c.in_ok-by_value.ensures c.in_ok-by_variable.ensures
    (c.variable_count.ensures ∙ sym (length-map c.args.task.now.value_names length))
