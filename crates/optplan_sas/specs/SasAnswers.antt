-- The answer for the text of a finite-domain task.
use Rattle.std.specs.Prelude.{◌≡◌, ◌≢◌, ℕ, ◌≤◌, ◌^◌, Bool, List, length, Err, Vec}
use Rattle.std.specs.String.{string_bytes}
use Rattle.std.specs.Global.{Global}
use Rattle.cost.specs.Distances.{Distance}
use Rattle.fdr.specs.Tasks.{FiniteDomainTask, EveryPlanCostsAtLeast, HasNoPlan}
use Rattle.sasfile_reader.specs.SasTexts.{SpellsTask}
use Rattle.sasfile_reader.specs.Reading.{task_in}
use Rattle.sasfile_reader.specs.declared.fault.SasFault.{SasFault}
use Rattle.sasfile_reader.specs.declared.fault.SasFault.TheVariants as sas_fault
use Rattle.sasfile_writer.specs.Plans.{sas_plan_text}
use Rattle.checker_fdr.specs.Answers.{IsAnswer}
use Rattle.checker_fdr.specs.declared.verdict.Verdict.TheVariants.{Accepted}
use Rattle.packed_spread.specs.Spreads as spread
use Rattle.optplan_search.specs.SearchEnds.{EndsOf}
use Rattle.optplan_search.specs.Findings.{IsPlanAt}
use Rattle.optplan_search.specs.declared.fault.SearchFault.{SearchFault}
use Rattle.optplan_solver.specs.Answers.{IsWrittenAnswer}
use Rattle.optplan_solver.specs.declared.forms.WrittenPlan.{WrittenPlan}
use Rattle.optplan_search.specs.declared.answer.Answer.{Answer}
use Rattle.optplan_solver.specs.declared.fault.SolveFault.{SolveFault}
use Rattle.optplan_solver.specs.declared.fault.SolveFault.TheVariants.{Texts, Search}

-- a plan is the list of its operators' numbers
abbrev pub SasAnswer : Type 0
SasAnswer = Answer (WrittenPlan (Vec ℕ Global))

-- the checker, which reads only the texts, accepts the certificate for the bound, if the certificate's text has at most
-- 2^30 bytes
abbrev pub IsAccepted : List ℕ → List ℕ → Distance → Type 0
IsAccepted sas cert bound = length cert ≤ 2 ^ 30 → IsAnswer sas cert (Accepted bound)

-- a plan of that cost, with its text
pub record IsSasPlan (task : FiniteDomainTask) (p : WrittenPlan (Vec ℕ Global)) : Type 0 where
  pub is : IsPlanAt task p.plan.items p.cost
  pub written : string_bytes p.plan_text ≡ sas_plan_text task p.plan.items p.cost

-- the answer for a task by searches at their ends: a cheapest plan, that there is none, or a bound and the best plan so
-- far; each with a certificate if one is wanted, whose text is accepted
abbrev pub IsSasAnswerFor : Bool → List ℕ → FiniteDomainTask → EndsOf spread.Zobrist → SasAnswer → Type 0
IsSasAnswerFor wanted sas task =
    IsWrittenAnswer (IsSasPlan task) (EveryPlanCostsAtLeast task) (HasNoPlan task) (λ bound text. IsAccepted sas text bound) wanted

-- the text spells a task, and this is the answer for it by searches whose ends satisfy `ends`, with a certificate if
-- one is wanted
pub record IsSasAnswer (wanted : Bool) (sas : List ℕ) (ends : FiniteDomainTask → EndsOf spread.Zobrist → Type 0) (answer : SasAnswer) : Type 0 where
  pub task : FiniteDomainTask
  pub spelled : SpellsTask sas task
  pub at : EndsOf spread.Zobrist
  pub ended : ends task at
  pub is : IsSasAnswerFor wanted sas task at answer

-- the text is refused for its first fault; or it spells a task, the search for which is refused for a fault that
-- satisfies `refused`: a path's total is too large
abbrev pub IsSasRefusal : List ℕ → (FiniteDomainTask → SearchFault → Type 0) → SolveFault SasFault → Type 0
IsSasRefusal sas refused (Texts e) = e ≢ sas_fault.OutOfMemory → task_in sas ≡ Err e
IsSasRefusal sas refused (Search e) = (task : FiniteDomainTask) × SpellsTask sas task × refused task e
