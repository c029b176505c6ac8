use Rattle.std.proofs.Common.{ℕ, length, sym, ap, ◌∙◌, subst}
use Rattle.keyed_lists.specs.Lists.{lists_by}
use Rattle.abstraction_groups.specs.Indexes.{AreOperatorsByEffect}
use Rattle.abstraction_groups.proofs.IndexLaws.{index_told}
use Rattle.abstraction_groups.proofs.index.OperatorIndex.new.Goals as goal

pub invariant_of-result : goal.invariant_of-result
invariant_of-result c =
    let task = c.args.task.now in
    subst (AreOperatorsByEffect task)
    (sym (c.in_ok-lists.ensures ∙ ap (λ (n : ℕ). lists_by n c.deref.result.now) c.variable_count.ensures ∙ ap (lists_by (length task.value_names)) c.deref.ensures.value))
    (index_told task c.in_ok-entries.entries.items c.in_ok-entries.ensures)
