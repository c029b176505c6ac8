-- The answer for the texts of a planning task.
use Rattle.std.specs.Prelude.{◌≡◌, ℕ, ◌≤◌, ◌^◌, Bool, List, length, map, Vec}
use Rattle.std.specs.Global.{Global}
use Rattle.std.specs.String.{string_bytes}
use Rattle.cost.specs.Distances.{Distance}
use Rattle.fdr.specs.Tasks.{FiniteDomainTask}
use Rattle.pddl_task.specs.Planning.{PlanningTask, Action}
use Rattle.pddl_task.specs.Plans.{IsValidPlan, total_cost, HasNoValidPlan}
use Rattle.translate_theory.specs.Bounds.{ValidPlansCostAtLeast}
use Rattle.pddl.specs.Texts.{SpellTask, IsTaskRefusal}
use Rattle.translate.specs.Translated.{TranslatedTask, IsTranslation, HasSamePlans, IsUntranslated}
use Rattle.checker.specs.Answers.{IsAnswer}
use Rattle.checker.specs.declared.verdict.PlanningVerdict.TheVariants.{Accepted}
use Rattle.validate.specs.Steps.{Step}
use Rattle.optplan_pddl.specs.Plans.{step_of, text_of_plan}
use Rattle.packed_spread.specs.Spreads as spread
use Rattle.optplan_search.specs.SearchEnds.{EndsOf}
use Rattle.optplan_solver.specs.Answers.{IsWrittenAnswer}
use Rattle.optplan_solver.specs.declared.forms.WrittenPlan.{WrittenPlan}
use Rattle.optplan_search.specs.declared.answer.Answer.{Answer}
use Rattle.optplan_search.specs.declared.fault.SearchFault.{SearchFault}
use Rattle.optplan_solver.specs.declared.fault.SolveFault.{SolveFault}
use Rattle.optplan_solver.specs.declared.fault.SolveFault.TheVariants.{Texts, Search}
use Rattle.optplan_pddl.specs.declared.fault.PrepareFault.{PrepareFault}
use Rattle.optplan_pddl.specs.declared.fault.PrepareFault.TheVariants.{Reading, Size}

-- a plan is the list of its steps
abbrev pub PlanningAnswer : Type 0
PlanningAnswer = Answer (WrittenPlan (Vec Step Global))

-- the checker, which reads only the texts, accepts the certificate for the bound, if the certificate's text has at most
-- 2^30 bytes
abbrev pub IsAccepted : List ℕ → List ℕ → List ℕ → Distance → Type 0
IsAccepted domain problem cert bound = length cert ≤ 2 ^ 30 → IsAnswer domain problem cert (Accepted bound)

-- a valid plan of that cost, by its steps and as a text
pub record IsPlanningPlan (task : PlanningTask) (p : WrittenPlan (Vec Step Global)) : Type 0 where
  pub actions : List Action
  pub valid : IsValidPlan task actions
  pub costs : total_cost actions ≡ p.cost
  pub steps : p.plan.items ≡ map (step_of task.vocabulary) actions
  pub written : string_bytes p.plan_text ≡ text_of_plan task actions p.cost

-- a plan of a translation, as a plan of the task that is translated
abbrev pub IsTranslatedPlan : TranslatedTask → WrittenPlan (Vec Step Global) → Type 0
IsTranslatedPlan t p =
    (domain problem : List ℕ) (task : PlanningTask) → SpellTask domain problem task → IsTranslation task t → HasSamePlans task t → IsPlanningPlan task p

-- the answer for a task by searches of a translation at their ends: a cheapest plan, that there is none, or a bound and
-- the best plan so far; each with a certificate if one is wanted, whose text is accepted
abbrev pub IsAnswerFor : Bool → List ℕ → List ℕ → PlanningTask → EndsOf spread.Zobrist → PlanningAnswer → Type 0
IsAnswerFor wanted domain problem task =
    IsWrittenAnswer (IsPlanningPlan task) (ValidPlansCostAtLeast task) (HasNoValidPlan task) (λ bound text. IsAccepted domain problem text bound) wanted

-- the texts spell a task, and this is the answer for it, by searches of a translation of the task whose ends satisfy
-- `ends`, with a certificate if one is wanted
pub record IsPlanningAnswer (wanted : Bool) (domain problem : List ℕ) (ends : FiniteDomainTask → EndsOf spread.Zobrist → Type 0) (answer : PlanningAnswer) : Type 0 where
  pub task : PlanningTask
  pub spelled : SpellTask domain problem task
  pub translated : TranslatedTask
  pub translation : IsTranslation task translated
  pub at : EndsOf spread.Zobrist
  pub ended : ends translated.task at
  pub is : IsAnswerFor wanted domain problem task at answer

-- the texts are refused for their first fault; or they spell a task that is too large, or whose translation is
abbrev pub IsPrepareRefusal : List ℕ → List ℕ → PrepareFault → Type 0
IsPrepareRefusal domain problem (Reading e) = IsTaskRefusal domain problem e
IsPrepareRefusal domain problem (Size e) = (task : PlanningTask) × SpellTask domain problem task × IsUntranslated task e

-- the texts spell a task, the search of whose translation is refused for a fault that satisfies `refused`: a path's
-- total is too large
abbrev pub IsSearchRefusal : List ℕ → List ℕ → (FiniteDomainTask → SearchFault → Type 0) → SearchFault → Type 0
IsSearchRefusal domain problem refused e =
    (task : PlanningTask) × SpellTask domain problem task × ((t : TranslatedTask) × IsTranslation task t × refused t.task e)

-- the texts are refused, or the search of what they spell
abbrev pub IsPlanningRefusal : List ℕ → List ℕ → (FiniteDomainTask → SearchFault → Type 0) → SolveFault PrepareFault → Type 0
IsPlanningRefusal domain problem refused (Texts e) = IsPrepareRefusal domain problem e
IsPlanningRefusal domain problem refused (Search e) = IsSearchRefusal domain problem refused e
