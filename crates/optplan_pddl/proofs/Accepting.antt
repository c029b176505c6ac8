-- A certificate and a plan of the translation are such of the planning task.
use Rattle.std.proofs.Common.{◌≡◌, ℕ, ◌≤◌, ◌^◌, List, length, sym, subst, ◌∙◌, map}
use Rattle.std.specs.Prelude.{Vec, string_bytes}
use Rattle.std.specs.Global.{Global}
use Rattle.cost.specs.Distances.{Distance}
use Rattle.pddl_task.specs.Planning.{PlanningTask, Action}
use Rattle.pddl.specs.Texts.{SpellTask}
use Rattle.cert_value.specs.Certificates.{CertificateValue}
use Rattle.cert_text.specs.Spelling.{spelling}
use Rattle.sasfile_writer.specs.Plans.{sas_plan_text}
use Rattle.translate.specs.Translated.{TranslatedTask, IsTranslation, HasSamePlans, AreOperatorsOf}
use Rattle.checker.specs.Answers.{IsAnswer}
use Rattle.checker.specs.declared.verdict.PlanningVerdict.TheVariants.{Accepted}
use Rattle.optplan_pddl.specs.Kinds.{translation_kind}
use Rattle.optplan_pddl.proofs.KindLaws.{kind_lawful, held_accepted}
use Rattle.optplan_pddl.specs.Plans.{step_of}
use Rattle.optplan_pddl.proofs.Actions.{plan_is_valid}
use Rattle.optplan_pddl.proofs.SameTexts.{same_text}
use Rattle.validate.specs.Steps.{Step}
use Rattle.optplan_search.specs.Findings.{wanted_with, IsPlanAt, IsCertificateOf}
use Rattle.optplan_search.specs.declared.found.FoundPlan.{FoundPlan}
use Rattle.optplan_solver.specs.declared.forms.WrittenPlan.{WrittenPlan}
use Rattle.optplan_solver.proofs.WrittenAnswers.{few_entries}
use Rattle.optplan_pddl.specs.Answers.{IsAccepted, IsPlanningPlan}

-- the checker accepts the text of a certificate that holds for the translation
pub accepted : (domain problem text : List ℕ) (task : PlanningTask) (t : TranslatedTask) (classes : List (List ℕ)) (bound : Distance) (c : CertificateValue) → SpellTask domain problem task
    → IsTranslation task t → IsCertificateOf t.task (wanted_with classes (translation_kind task t)) bound c → text ≡ spelling c → IsAccepted domain problem text bound
accepted domain problem text task t classes bound c spells made of is =
    λ short.
    subst (λ (b : Distance). IsAnswer domain problem text (Accepted b)) of.bound_is
    (held_accepted domain problem text task t c spells made of.kind_is of.held
    (of.lawful (kind_lawful domain problem task t spells made) (few_entries c (subst (λ (x : List ℕ). length x ≤ 2 ^ 30) is short))) short is)

-- a plan of the translation is one of the task
pub plan_for : (domain problem : List ℕ) (task : PlanningTask) (t : TranslatedTask) (found : FoundPlan) (p : WrittenPlan (Vec Step Global)) → SpellTask domain problem task → IsTranslation task t
    → HasSamePlans task t → IsPlanAt t.task found.plan.items found.cost → p.cost ≡ found.cost
    → ((actions : List Action) → AreOperatorsOf task t actions found.plan.items → p.plan.items ≡ map (step_of task.vocabulary) actions)
    → string_bytes p.plan_text ≡ sas_plan_text t.task found.plan.items p.cost → IsPlanningPlan task p
plan_for domain problem task t found p spells made same is cost steps text =
    let (actions, operators, valid, total) = plan_is_valid task t made found.plan.items same is.leads in
    record {
      actions = actions;
      valid = valid;
      costs = total ∙ is.costs ∙ sym cost;
      steps = steps actions operators;
      written = text ∙ same_text task t made actions found.plan.items p.cost operators;
    }
