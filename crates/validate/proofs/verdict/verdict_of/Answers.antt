use Rattle.std.proofs.Common.{◌≡◌, ◌+◌, ◌<◌, Some, None, ap, sym, ◌∙◌, arith, length}
use Rattle.pddl_task.specs.Atoms.{State, contains}
use Rattle.pddl_task.specs.Planning.{PlanningTask, Action}
use Rattle.pddl_task.specs.Plans.{next_state}
use Rattle.validate.specs.States.{holds_in}
use Rattle.validate.specs.Steps.{action_named}
use Rattle.validate.specs.Validation.{verdict_from, first_failing}
use Rattle.validate.specs.Verdicts.{CostsAtMost}
use Rattle.validate.specs.declared.verdict.Verdict.TheVariants.{NotApplicable, GoalOpen}
use Rattle.validate.proofs.VerdictLaws.{named_is_action, step_applied, step_not_applicable, steps_over}
use Rattle.validate.proofs.verdict.verdict_of.Goals as goal

pub loop-place-init : goal.loop-place-init
loop-place-init c = record {
  verdict = ap (λ (s : State). verdict_from c.args.task.now c.args.plan.now 1 s 0)
      (c.in_ok-state.ensures ∙ ap contains (c.deref.ensures.value ∙ ap (λ (t : PlanningTask). t.initial) c.task.view_is));
  cost = omega arith;
}

pub returns-in-Some-first_failing : goal.returns-in-Some-first_failing
returns-in-Some-first_failing c =
    let given : c.in_ok-action.field-0 ≡ action_named c.args.task.now c.step-item.result = c.in_ok-action.ensures in
    let named : action_named c.args.task.now c.step-item.result ≡ Some c.in-Some.action = sym given ∙ c.in-Some.is in
    let seen : c.deref-in-loop-place.result.now ≡ c.in-Some.action.precondition = c.deref-in-loop-place.ensures.value ∙ ap (λ (a : Action). a.precondition) c.action.view_is in
    let fails : first_failing (holds_in c.loop-place.state) c.in-Some.action.precondition ≡ Some c.in-Some-first_failing.literal.now =
    sym (c.in-Some-first_failing.ensures ∙ ap (first_failing (holds_in c.loop-place.state)) seen) in
    ap (NotApplicable (c.loop-place.place + 1)) c.in_ok-try_clone.ensures
    ∙ step_not_applicable c.args.task.now c.args.plan.now c.loop-place.place c.step-item.result
    (rw c.steps-step-items.ensures.steps at c.loop-place-test.true) (rw c.steps-step-items.ensures.steps at c.step-item.is) (c.loop-place.place + 1) (holds_in c.loop-place.state) c.loop-place.cost
    c.in-Some.action c.in-Some-first_failing.literal.now named fails
    ∙ c.loop-place.invariant.verdict

pub overflow_add-cost : goal.overflow_add-cost
unfolding CostsAtMost
overflow_add-cost c =
    let given : c.in_ok-action.field-0 ≡ action_named c.args.task.now c.step-item.result = c.in_ok-action.ensures in
    let named : action_named c.args.task.now c.step-item.result ≡ Some c.in-Some.action = sym given ∙ c.in-Some.is in
    let paid : c.action.inside.cost ≡ c.in-Some.action.cost = ap (λ (a : Action). a.cost) c.action.view_is in
    let small = c.requires.costs c.in-Some.action (named_is_action c.args.task.now c.step-item.result c.in-Some.action named) in
    let few = c.steps-step-items.ensures.few in
    let lt : c.loop-place.place < length c.args.plan.now = rw c.steps-step-items.ensures.steps at c.loop-place-test.true in
    let sum = c.loop-place.invariant.cost in
    omega (arith, small, few, lt, sum, paid)

pub loop-place-preserved : goal.loop-place-preserved
unfolding CostsAtMost
loop-place-preserved c =
    let given : c.in_ok-action.field-0 ≡ action_named c.args.task.now c.step-item.result = c.in_ok-action.ensures in
    let named : action_named c.args.task.now c.step-item.result ≡ Some c.in-Some.action = sym given ∙ c.in-Some.is in
    let paid : c.action.inside.cost ≡ c.in-Some.action.cost = ap (λ (a : Action). a.cost) c.action.view_is in
    let small = c.requires.costs c.in-Some.action (named_is_action c.args.task.now c.step-item.result c.in-Some.action named) in
    let sum = c.loop-place.invariant.cost in
    let seen : c.deref-in-loop-place.result.now ≡ c.in-Some.action.precondition = c.deref-in-loop-place.ensures.value ∙ ap (λ (a : Action). a.precondition) c.action.view_is in
    let holds : first_failing (holds_in c.loop-place.state) c.in-Some.action.precondition ≡ None =
    sym (c.in_default-first_failing.ensures ∙ ap (first_failing (holds_in c.loop-place.state)) seen) in
    let applied : holds_in c.apply.new.self ≡ next_state (holds_in c.loop-place.state) c.in-Some.action = c.in_ok-apply.ensures in
    record {
      verdict =
          step_applied c.args.task.now c.args.plan.now c.loop-place.place c.step-item.result
          (rw c.steps-step-items.ensures.steps at c.loop-place-test.true) (rw c.steps-step-items.ensures.steps at c.step-item.is)
          (c.loop-place.place + 1) (holds_in c.loop-place.state) (holds_in c.apply.new.self) c.loop-place.cost c.in-Some.action c.action.inside.cost named holds
          applied paid
          ∙ c.loop-place.invariant.verdict;
      cost = omega (arith, small, sum, paid);
    }

pub returns-in-Some-first_failing-2 : goal.returns-in-Some-first_failing-2
returns-in-Some-first_failing-2 c =
    let value : c.deref-2.result.now ≡ c.task.inside.goal.items = c.deref-2.ensures.value in
    let seen : c.deref-2.result.now ≡ c.args.task.now.goal = value ∙ ap (λ (t : PlanningTask). t.goal) c.task.view_is in
    let cloned : c.in_ok-try_clone-in-Some-first_failing-2.field-0 ≡ c.in-Some-first_failing-2.literal.now = c.in_ok-try_clone-in-Some-first_failing-2.ensures in
    ap GoalOpen cloned
    ∙ steps_over c.args.task.now c.args.plan.now c.loop-place.place (c.loop-place.place + 1) (holds_in c.loop-place.state) c.loop-place.cost (Some c.in-Some-first_failing-2.literal.now)
    (rw c.steps-step-items.ensures.steps at c.loop-place-test.false)
    (sym (c.in-Some-first_failing-2.ensures ∙ ap (first_failing (holds_in c.loop-place.state)) seen))
    ∙ c.loop-place.invariant.verdict

pub returns : goal.returns
returns c =
    let value : c.deref-2.result.now ≡ c.task.inside.goal.items = c.deref-2.ensures.value in
    let seen : c.deref-2.result.now ≡ c.args.task.now.goal = value ∙ ap (λ (t : PlanningTask). t.goal) c.task.view_is in
    steps_over c.args.task.now c.args.plan.now c.loop-place.place (c.loop-place.place + 1) (holds_in c.loop-place.state) c.loop-place.cost None
    (rw c.steps-step-items.ensures.steps at c.loop-place-test.false)
    (sym (c.in-None.ensures ∙ ap (first_failing (holds_in c.loop-place.state)) seen))
    ∙ c.loop-place.invariant.verdict
