use Rattle.std.proofs.Common.{◌≡◌, ℕ, List, ap, sym, subst, ◌∙◌, arith}
use Rattle.fdr.specs.Tasks.{FiniteDomainTask, Operator, ranges, IsTask, IsOperator, IsWithinLimits, task_of}
use Rattle.reduction_classes.specs.Reduced.{reduced_with, reduced_state, reduced_facts, chosen}
use Rattle.reduction_classes.proofs.Runs.{reduced_is_task}
use Rattle.reduction_classes.proofs.Limits.{made_task, chosen_well, length-chosen_le, reduced_within_limits, not_past}
use Rattle.reduction_classes.proofs.classes.Classes.task_with.Goals as goal

pub new-requires : goal.new-requires
new-requires c =
    let task : FiniteDomainTask = c.args.task.now in
    let classes : List (List ℕ) = c.args.self.now in
    let ops : List Operator = chosen task.operators c.args.numbers.now in
    let made : task_of c.has_metric.result c.in_ok-value_names.value_names.items c.in_ok-initial.initial.items c.in_ok-goal.goal.items c.in_ok-operators.operators.items ≡ reduced_with classes task ops =
    made_task classes task ops c.has_metric.result c.in_ok-value_names.value_names.items c.in_ok-initial.initial.items c.in_ok-goal.goal.items c.in_ok-operators.operators.items
    c.has_metric.ensures c.in_ok-value_names.ensures (c.in_ok-initial.ensures ∙ ap (reduced_state classes) c.initial.ensures.value) (c.in_ok-goal.ensures ∙ ap (reduced_facts classes) c.goal.ensures.value) c.in_ok-operators.ensures in
    subst IsTask (sym made)
    (reduced_is_task task classes c.requires.fit ops c.recall.ensures.task (chosen_well (IsOperator (ranges task)) task.operators c.args.numbers.now c.recall.ensures.task.operators))

pub returns : goal.returns
returns c =
    let task : FiniteDomainTask = c.args.task.now in
    let classes : List (List ℕ) = c.args.self.now in
    let ops : List Operator = chosen task.operators c.args.numbers.now in
    c.in-Ok.ensures.task
    ∙ made_task classes task ops c.has_metric.result c.in_ok-value_names.value_names.items c.in_ok-initial.initial.items c.in_ok-goal.goal.items c.in_ok-operators.operators.items
    c.has_metric.ensures c.in_ok-value_names.ensures (c.in_ok-initial.ensures ∙ ap (reduced_state classes) c.initial.ensures.value) (c.in_ok-goal.ensures ∙ ap (reduced_facts classes) c.goal.ensures.value) c.in_ok-operators.ensures

pub unreachable-requires : goal.unreachable-requires
unreachable-requires c =
    let task : FiniteDomainTask = c.args.task.now in
    let classes : List (List ℕ) = c.args.self.now in
    let ops : List Operator = chosen task.operators c.args.numbers.now in
    let made : task_of c.has_metric.result c.in_ok-value_names.value_names.items c.in_ok-initial.initial.items c.in_ok-goal.goal.items c.in_ok-operators.operators.items ≡ reduced_with classes task ops =
    made_task classes task ops c.has_metric.result c.in_ok-value_names.value_names.items c.in_ok-initial.initial.items c.in_ok-goal.goal.items c.in_ok-operators.operators.items
    c.has_metric.ensures c.in_ok-value_names.ensures (c.in_ok-initial.ensures ∙ ap (reduced_state classes) c.initial.ensures.value) (c.in_ok-goal.ensures ∙ ap (reduced_facts classes) c.goal.ensures.value) c.in_ok-operators.ensures in
    let within : IsWithinLimits (reduced_with classes task ops) =
    reduced_within_limits task classes c.requires.fit c.recall-2.ensures c.recall.ensures.limits ops (omega (arith, length-chosen_le task.operators c.args.numbers.now, c.requires.few)) in
    not_past (task_of c.has_metric.result c.in_ok-value_names.value_names.items c.in_ok-initial.initial.items c.in_ok-goal.goal.items c.in_ok-operators.operators.items) c.in-Err.limit
    (subst IsWithinLimits (sym made) within) c.in-Err.ensures.past
