use Rattle.std.proofs.Common.{◌≡◌, ◌∙◌, ap, sym, length, List, ℕ}
use Rattle.std.proofs.lemmas.List.{length-map}
use Rattle.fdr.specs.Tasks.{FiniteDomainTask, IsPastLimit, task_of}
use Rattle.pddl_task.specs.Planning.{PlanningTask}
use Rattle.translate_theory.specs.Translations.{translation, carried, operator_of}
use Rattle.translate_theory.proofs.Ranges.{translation_is_task}
use Rattle.translate_theory.specs.Variables.{variables_at}
use Rattle.translate_assembly.specs.Slots.{slot_of, values_of}
use Rattle.translate_assembly.proofs.StateLaws.{lengths_are, past_limit, fault_tells}
use Rattle.translate_assembly.proofs.AssemblyLaws.{parts_are, carried_at}
use Rattle.translate_assembly.proofs.assembly.assemble.Goals as goal

pub returns-in_err-check_limits-clause-limit : goal.returns-in_err-check_limits-clause-limit
returns-in_err-check_limits-clause-limit c =
    let task = c.args.task.now in
    let atoms = c.args.atoms.now in
    let actions = c.args.actions.now in
    let variables = c.args.variables.now in
    let f = c.in_err-check_limits.field-0.0 in
    fault_tells c.from_residual.result f (IsPastLimit (translation task (variables_at atoms variables) actions)) c.from_residual.ensures.1
    (past_limit task atoms actions variables c.requires.placed f c.in_err-check_limits.ensures.past)

pub new-requires : goal.new-requires
new-requires c =
    let task = c.args.task.now in
    let atoms = c.args.atoms.now in
    let actions = c.args.actions.now in
    let variables = c.args.variables.now in
    let vs = variables_at atoms variables in
    let parts = c.in_ok-parts.parts in
    let h = c.in_ok-parts.ensures in
    let metric : c.task.inside.metric ≡ task.metric = ap (λ (t : PlanningTask). t.metric) c.task.view_is in
    let whole : task_of c.task.inside.metric parts.value_names.items parts.initial.items parts.goal.items parts.operators.items ≡ translation task vs actions =
    parts_are task atoms actions vs c.requires.complete c.requires.fit c.task.inside.metric parts.value_names.items parts.initial.items parts.goal.items
    parts.operators.items metric h.value_names
    (h.initial ∙ ap (λ (l : List ℕ). values_of (slot_of vs) l task.initial) (lengths_are atoms variables c.requires.placed)) h.goal h.operators in
    rw whole (translation_is_task task atoms actions vs c.requires.listed c.requires.complete c.requires.fit)

pub returns-in_err-task-clause-limit : goal.returns-in_err-task-clause-limit
returns-in_err-task-clause-limit c =
    let task = c.args.task.now in
    let atoms = c.args.atoms.now in
    let actions = c.args.actions.now in
    let variables = c.args.variables.now in
    let vs = variables_at atoms variables in
    let parts = c.in_ok-parts.parts in
    let h = c.in_ok-parts.ensures in
    let metric : c.task.inside.metric ≡ task.metric = ap (λ (t : PlanningTask). t.metric) c.task.view_is in
    let whole : task_of c.task.inside.metric parts.value_names.items parts.initial.items parts.goal.items parts.operators.items ≡ translation task vs actions =
    parts_are task atoms actions vs c.requires.complete c.requires.fit c.task.inside.metric parts.value_names.items parts.initial.items parts.goal.items
    parts.operators.items metric h.value_names
    (h.initial ∙ ap (λ (l : List ℕ). values_of (slot_of vs) l task.initial) (lengths_are atoms variables c.requires.placed)) h.goal h.operators in
    let f = c.in_err-task.field-0.0 in
    fault_tells c.from_residual-in_err-task.result f (IsPastLimit (translation task vs actions)) c.from_residual-in_err-task.ensures.1
    (rw whole at c.in_err-task.ensures.past)

pub returns-clause-task : goal.returns-clause-task
returns-clause-task c =
    let task = c.args.task.now in
    let atoms = c.args.atoms.now in
    let actions = c.args.actions.now in
    let variables = c.args.variables.now in
    let vs = variables_at atoms variables in
    let parts = c.in_ok-parts.parts in
    let h = c.in_ok-parts.ensures in
    let metric : c.task.inside.metric ≡ task.metric = ap (λ (t : PlanningTask). t.metric) c.task.view_is in
    let whole : task_of c.task.inside.metric parts.value_names.items parts.initial.items parts.goal.items parts.operators.items ≡ translation task vs actions =
    parts_are task atoms actions vs c.requires.complete c.requires.fit c.task.inside.metric parts.value_names.items parts.initial.items parts.goal.items
    parts.operators.items metric h.value_names
    (h.initial ∙ ap (λ (l : List ℕ). values_of (slot_of vs) l task.initial) (lengths_are atoms variables c.requires.placed)) h.goal h.operators in
    c.in_ok-task.ensures.task ∙ whole

pub returns-clause-count : goal.returns-clause-count
returns-clause-count c =
    let vs = variables_at c.args.atoms.now c.args.variables.now in
    let at = carried_at c.args.task.now c.args.atoms.now c.args.actions.now vs c.requires.complete c.requires.fit in
    let as_many : length c.in_ok-parts.parts.carried.items ≡ length (carried vs c.args.actions.now) = ap length c.in_ok-parts.ensures.carried ∙ at.count in
    as_many
    ∙ sym (length-map (carried vs c.args.actions.now) (operator_of c.args.task.now.vocabulary vs))
    ∙ ap (λ (t : FiniteDomainTask). length t.operators) (sym (returns-clause-task c))

pub returns-clause-carried : goal.returns-clause-carried
returns-clause-carried c =
    let vs = variables_at c.args.atoms.now c.args.variables.now in
    rw c.in_ok-parts.ensures.carried (carried_at c.args.task.now c.args.atoms.now c.args.actions.now vs c.requires.complete c.requires.fit)
