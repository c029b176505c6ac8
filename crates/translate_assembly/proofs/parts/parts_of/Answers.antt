use Rattle.std.proofs.Common.{◌≡◌, ◌∙◌, ap, rules, map, length}
use Rattle.std.specs.Prelude.{is_some}
use Rattle.std.specs.List.{filter_map}
use Rattle.pddl_task.specs.Planning.{PlanningTask, Vocabulary}
use Rattle.translate_theory.specs.Variables.{variables_at}
use Rattle.translate_assembly.specs.Slots.{Lookup, look_up, slot_of, values_of}
use Rattle.translate_assembly.specs.Operators.{condition_facts, made_operator, places_where}
use Rattle.translate_assembly.proofs.parts.parts_of.Goals as goal

pub returns-clause-initial : goal.returns-clause-initial
returns-clause-initial c =
    let same : look_up c.in_ok-table.table ≡ slot_of (variables_at c.args.atoms.now c.args.variables.now) = λ i p. c.in_ok-table.ensures p i in
    let by_table : c.in_ok-initial.initial.items ≡ values_of (look_up c.in_ok-table.table) (map (λ v. length v.places) c.args.variables.now) c.args.task.now.initial = search rules in
    by_table ∙ ap (λ (slots : Lookup). values_of slots (map (λ v. length v.places) c.args.variables.now) c.args.task.now.initial) same

pub returns-clause-goal : goal.returns-clause-goal
returns-clause-goal c =
    let same : look_up c.in_ok-table.table ≡ slot_of (variables_at c.args.atoms.now c.args.variables.now) = λ i p. c.in_ok-table.ensures p i in
    let by_table : c.into_facts-goal.result.items ≡ condition_facts (look_up c.in_ok-table.table) c.args.task.now.goal = search rules in
    by_table ∙ ap (λ (slots : Lookup). condition_facts slots c.args.task.now.goal) same

pub returns-clause-operators : goal.returns-clause-operators
returns-clause-operators c =
    let same : look_up c.in_ok-table.table ≡ slot_of (variables_at c.args.atoms.now c.args.variables.now) = λ i p. c.in_ok-table.ensures p i in
    let by_table : c.in_ok-operators.field-0.operators.items ≡ filter_map (made_operator (look_up c.in_ok-table.table) c.args.task.now.vocabulary) c.args.actions.now = search rules in
    by_table ∙ ap (λ (slots : Lookup). filter_map (made_operator slots c.args.task.now.vocabulary) c.args.actions.now) same

pub returns-clause-carried : goal.returns-clause-carried
returns-clause-carried c =
    let same : look_up c.in_ok-table.table ≡ slot_of (variables_at c.args.atoms.now c.args.variables.now) = λ i p. c.in_ok-table.ensures p i in
    c.in_ok-operators.ensures.carried
    ∙ ap (λ (v : Vocabulary). places_where (λ a. is_some (made_operator (look_up c.in_ok-table.table) v a)) 0 c.args.actions.now)
    (ap (λ (t : PlanningTask). t.vocabulary) c.task.view_is)
    ∙ ap (λ (slots : Lookup). places_where (λ a. is_some (made_operator slots c.args.task.now.vocabulary a)) 0 c.args.actions.now) same
