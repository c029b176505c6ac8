use Rattle.std.proofs.Common.{◌≡◌, List, arith, ap, subst, sym, get_or, ◌∙◌}
use Rattle.std.specs.Prelude.{map, ℕ}
use Rattle.std.proofs.lemmas.List.{take_all}
use Rattle.fdr.specs.Tasks.{FiniteDomainTask, Operator}
use Rattle.pddl_laws.proofs.WordNames.{spelled_words}
use Rattle.validate.specs.PlanWords.{IsPlanStep}
use Rattle.optplan_pddl.specs.Plans.{step_of}
use Rattle.optplan_pddl.specs.Steps.{words_of, step_of_words, operator_step}
use Rattle.optplan_pddl.proofs.SpelledSteps.{steps_are_named, operator_step_at, step_name_at, steps_more}
use Rattle.optplan_pddl.proofs.steps.named_steps.Goals as goal

pub returns : goal.returns
returns c =
    let steps = c.loop-operator.invariant ∙ ap (map (operator_step c.args.translated.now)) (take_all c.loop-operator.operator-index c.args.plan.now (omega arith)) in
    λ domain problem task t actions spelled made is pairs.
    steps
    ∙ subst (λ (f : FiniteDomainTask). map (operator_step f) c.args.plan.now ≡ map (step_of task.vocabulary) actions) is
    (steps_are_named task t made actions c.args.plan.now (spelled_words domain problem task spelled) pairs)

pub push_named-requires : goal.push_named-requires
push_named-requires c =
    let o = get_or c.args.plan.now c.loop-operator.operator-index 0 in
    subst (λ (text : List ℕ). IsPlanStep (step_of_words (words_of text))) (sym (c.as_str.ensures.value ∙ ap (λ (op : Operator). op.name) c.operator.view_is))
    (step_name_at c.args.translated.now c.operators-operators.result.now o c.index-operators-operator.result c.operators-operators.ensures.value c.requires.names
    (c.requires.there c.loop-operator.operator-index 0 c.loop-operator-test.true) c.index-operators-operator.is)

pub loop-operator-preserved : goal.loop-operator-preserved
loop-operator-preserved c =
    let o = get_or c.args.plan.now c.loop-operator.operator-index 0 in
    let named = ap (λ (text : List ℕ). step_of_words (words_of text)) (c.as_str.ensures.value ∙ ap (λ (op : Operator). op.name) c.operator.view_is) in
    let found = operator_step_at c.args.translated.now c.operators-operators.result.now o c.index-operators-operator.result c.operators-operators.ensures.value
    (c.requires.there c.loop-operator.operator-index 0 c.loop-operator-test.true) c.index-operators-operator.is in
    steps_more c.args.translated.now c.args.plan.now c.loop-operator.operator-index c.loop-operator.steps.items c.push_named.new.steps.items
    (step_of_words (words_of c.as_str.result.now)) c.loop-operator-test.true (named ∙ found) c.loop-operator.invariant c.in_ok-push_named.ensures
