-- The answers to the texts of a planning task, of a plan and of a certificate.
use Rattle.std.specs.Prelude.{◌≢◌, ◌⊎◌, ℕ, ◌<◌, List}
use Rattle.std.specs.String.{string_bytes}
use Rattle.cost.specs.Distances.{Distance, Finite, Infinite, ◌≤ᵈ◌}
use Rattle.pddl_task.specs.Planning.{PlanningTask}
use Rattle.pddl.specs.Texts.{SpellTask, IsTaskRefusal}
use Rattle.pddl.specs.declared.fault.PddlFault.TheVariants as task_fault
use Rattle.validate.specs.PlanTexts.{IsPlanFault}
use Rattle.validate.specs.declared.plan.PlanFault.TheVariants as plan_fault
use Rattle.checker.specs.Answers as checked
use Rattle.checker.specs.declared.fault.PlanningCheckFault.TheVariants as check
use Rattle.checker.specs.declared.verdict.PlanningVerdict.TheVariants.{Accepted, Rejected}
use Rattle.optplan_optimal.specs.declared.fault.OptimalityFault.{OptimalityFault}
use Rattle.optplan_optimal.specs.declared.fault.OptimalityFault.TheVariants.{OutOfMemory, Task, Plan, Cert, GroundLimit, Limit}
use Rattle.optplan_optimal.specs.declared.verdict.OptimalityVerdict.{OptimalityVerdict}
use Rattle.optplan_optimal.specs.declared.verdict.OptimalityVerdict.TheVariants.{Optimal, Gap, CertificateRejected, PlanRejected, Unsolvable, AtLeast, ClaimRejected}
use Rattle.optplan_optimal.specs.Plans.{ClaimsUnsolvable, SpellsValidPlan, SpellsInvalidPlan}

-- the texts spell a task, and a plan that is valid for it at this cost
pub record SpellTaskAndValidPlan (domain problem plan : List ℕ) (cost : ℕ) : Type 0 where
  pub task : PlanningTask
  pub task_spelled : SpellTask domain problem task
  pub plan_spelled : SpellsValidPlan task plan cost

-- the texts spell a task, and a plan that is not valid for it, with this line
pub record SpellTaskAndInvalidPlan (domain problem plan line : List ℕ) : Type 0 where
  pub task : PlanningTask
  pub task_spelled : SpellTask domain problem task
  pub plan_spelled : SpellsInvalidPlan task plan line

-- the certificate is accepted with a bound that is at least the cost
abbrev pub IsAcceptedFor : List ℕ → List ℕ → List ℕ → ℕ → Type 0
IsAcceptedFor domain problem cert cost = (bound : Distance) × checked.IsAnswer domain problem cert (Accepted bound) × (Finite cost ≤ᵈ bound)

-- the verdict is the correct one for the texts
abbrev pub IsAnswer : List ℕ → List ℕ → List ℕ → List ℕ → OptimalityVerdict → Type 0
IsAnswer domain problem plan cert (Optimal cost) = SpellTaskAndValidPlan domain problem plan cost × IsAcceptedFor domain problem cert cost
IsAnswer domain problem plan cert (Gap cost bound) =
    SpellTaskAndValidPlan domain problem plan cost × checked.IsAnswer domain problem cert (Accepted (Finite bound)) × (bound < cost)
IsAnswer domain problem plan cert (CertificateRejected cost v) =
    SpellTaskAndValidPlan domain problem plan cost × checked.IsAnswer domain problem cert (Rejected v)
IsAnswer domain problem plan cert (PlanRejected line) = SpellTaskAndInvalidPlan domain problem plan (string_bytes line)
IsAnswer domain problem plan cert Unsolvable = ClaimsUnsolvable plan × checked.IsAnswer domain problem cert (Accepted Infinite)
IsAnswer domain problem plan cert (AtLeast bound) = ClaimsUnsolvable plan × checked.IsAnswer domain problem cert (Accepted (Finite bound))
IsAnswer domain problem plan cert (ClaimRejected v) = ClaimsUnsolvable plan × checked.IsAnswer domain problem cert (Rejected v)

-- the certificate is judged: the plan is valid, or its text claims that there is none
abbrev pub IsCertificateJudged : List ℕ → List ℕ → List ℕ → Type 0
IsCertificateJudged domain problem plan = ((cost : ℕ) × SpellTaskAndValidPlan domain problem plan cost) ⊎ ClaimsUnsolvable plan

-- The texts have this first fault: of the domain and the problem; or, if these spell a task, of the plan; or, if the
-- plan is valid or its text claims that there is none, of the certificate.
abbrev pub IsRefusal : List ℕ → List ℕ → List ℕ → List ℕ → OptimalityFault → Type 0
IsRefusal domain problem plan cert OutOfMemory = Unit {0}
IsRefusal domain problem plan cert (Task e) = (e ≢ task_fault.OutOfMemory) × IsTaskRefusal domain problem e
IsRefusal domain problem plan cert (Plan e) =
    (e ≢ plan_fault.OutOfMemory) × ((task : PlanningTask) × SpellTask domain problem task) × (ClaimsUnsolvable plan → ⊥) × IsPlanFault plan e
IsRefusal domain problem plan cert (Cert e) = IsCertificateJudged domain problem plan × checked.IsRefusal domain problem cert (check.Cert e)
IsRefusal domain problem plan cert GroundLimit = IsCertificateJudged domain problem plan × checked.IsRefusal domain problem cert check.GroundLimit
IsRefusal domain problem plan cert (Limit l) = IsCertificateJudged domain problem plan × checked.IsRefusal domain problem cert (check.Limit l)
