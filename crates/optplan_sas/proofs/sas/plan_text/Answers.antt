use Rattle.std.proofs.Common.{List, ℕ, ◌<◌, length, subst, sym, ap, ◌∙◌}
use Rattle.std.specs.Prelude.{All}
use Rattle.sasfile_writer.specs.Plans.{sas_plan_text}
use Rattle.optplan_solver.proofs.PlanTexts.{plan_operators_exist}
use Rattle.optplan_sas.proofs.sas.plan_text.Goals as goal

pub sas_plan_text-requires : goal.sas_plan_text-requires
sas_plan_text-requires c =
    subst (λ (plan : List ℕ). All (λ o. o < length c.args.task.now.operators) plan) (sym c.deref.ensures.value)
    (plan_operators_exist c.args.task.now c.args.found.plan.items c.requires.leads)

pub returns-clause-plan : goal.returns-clause-plan
returns-clause-plan c = record {
  is = c.requires;
  written = c.in_ok-plan_text.ensures ∙ ap (λ (plan : List ℕ). sas_plan_text c.args.task.now plan c.args.found.cost) c.deref.ensures.value;
}
