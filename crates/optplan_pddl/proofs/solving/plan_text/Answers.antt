use Rattle.std.proofs.Common.{List, ℕ, ◌<◌, length, subst, sym, ap, ◌∙◌, refl}
use Rattle.std.specs.Prelude.{All}
use Rattle.fdr.specs.Tasks.{FiniteDomainTask}
use Rattle.sasfile_writer.specs.Plans.{sas_plan_text}
use Rattle.translate.specs.Translated.{AreOperatorsOf}
use Rattle.optplan_pddl.specs.Steps.{HasStepNames}
use Rattle.optplan_solver.proofs.PlanTexts.{plan_operators_exist}
use Rattle.optplan_pddl.proofs.Accepting.{plan_for}
use Rattle.optplan_pddl.proofs.solving.plan_text.Goals as goal

pub named_steps-requires-clause-names : goal.named_steps-requires-clause-names
named_steps-requires-clause-names c = subst HasStepNames (sym c.task.ensures) c.requires.names

pub named_steps-requires-clause-there : goal.named_steps-requires-clause-there
named_steps-requires-clause-there c =
    subst (λ (task : FiniteDomainTask). All (λ o. o < length task.operators) c.deref.result.now) (sym c.task.ensures)
    (subst (λ (plan : List ℕ). All (λ o. o < length c.args.translated.now.task.operators) plan) (sym c.deref.ensures.value)
    (plan_operators_exist c.args.translated.now.task c.args.found.plan.items c.requires.plan.leads))

pub sas_plan_text-requires : goal.sas_plan_text-requires
sas_plan_text-requires c =
    subst (λ (task : FiniteDomainTask). All (λ o. o < length task.operators) c.deref-2.result.now) (sym c.task-2.ensures)
    (subst (λ (plan : List ℕ). All (λ o. o < length c.args.translated.now.task.operators) plan) (sym c.deref-2.ensures.value)
    (plan_operators_exist c.args.translated.now.task c.args.found.plan.items c.requires.plan.leads))

pub returns-clause-plan : goal.returns-clause-plan
returns-clause-plan c = λ domain problem task spells made same.
    plan_for domain problem task c.args.translated.now c.args.found _ spells made same c.requires.plan refl
    (λ actions operators. c.in_ok-plan.ensures domain problem task c.args.translated.now actions spells made (sym c.task.ensures)
    (subst (AreOperatorsOf task c.args.translated.now actions) (sym c.deref.ensures.value) operators))
    (c.in_ok-plan_text.ensures
    ∙ ap (λ (t : FiniteDomainTask). sas_plan_text t c.deref-2.result.now c.args.found.cost) c.task-2.ensures
    ∙ ap (λ (plan : List ℕ). sas_plan_text c.args.translated.now.task plan c.args.found.cost) c.deref-2.ensures.value)
