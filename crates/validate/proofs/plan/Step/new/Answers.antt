use Rattle.std.proofs.Common.{sym, ◌∙◌}
use Rattle.std.specs.String.{string_bytes}
use Rattle.validate.proofs.PlanWordTests.{step_by, no_step_by}
use Rattle.validate.proofs.plan.Step.new.Goals as goal

pub invariant_of-result : goal.invariant_of-result
invariant_of-result c =
    step_by (string_bytes c.args.name) c.args.arguments.items
    (sym (rw (c.deref.ensures, c.deref-2.ensures.value) at c.is_plan_step.ensures) ∙ c.if-is_plan_step.true)

pub returns-then-is_plan_step-clause-words : goal.returns-then-is_plan_step-clause-words
returns-then-is_plan_step-clause-words c =
    step_by (string_bytes c.args.name) c.args.arguments.items
    (sym (rw (c.deref.ensures, c.deref-2.ensures.value) at c.is_plan_step.ensures) ∙ c.if-is_plan_step.true)

pub returns-else-is_plan_step-clause-none : goal.returns-else-is_plan_step-clause-none
returns-else-is_plan_step-clause-none c =
    no_step_by (string_bytes c.args.name) c.args.arguments.items c.is_plan_step.result
    (rw (c.deref.ensures, c.deref-2.ensures.value) at c.is_plan_step.ensures) c.if-is_plan_step.false
