-- What a verdict guarantees of the task, whoever wrote the plan and the certificate.
use Rattle.std.specs.Prelude.{ℕ, ◌<◌, List}
use Rattle.pddl_task.specs.Planning.{PlanningTask}
use Rattle.pddl_task.specs.Plans.{EveryValidPlanCostsAtLeast, HasNoValidPlan}
use Rattle.optplan_optimal.specs.declared.verdict.OptimalityVerdict.{OptimalityVerdict}
use Rattle.optplan_optimal.specs.declared.verdict.OptimalityVerdict.TheVariants.{Optimal, Gap, CertificateRejected, PlanRejected, Unsolvable, AtLeast, ClaimRejected}
use Rattle.optplan_optimal.specs.Plans.{SpellsValidPlan}

-- what the verdict on the text of a plan guarantees
abbrev pub Guarantees : PlanningTask → List ℕ → OptimalityVerdict → Type 0
Guarantees task plan (Optimal cost) = SpellsValidPlan task plan cost × EveryValidPlanCostsAtLeast task cost
Guarantees task plan (Gap cost bound) = SpellsValidPlan task plan cost × EveryValidPlanCostsAtLeast task bound × (bound < cost)
Guarantees task plan (CertificateRejected cost v) = SpellsValidPlan task plan cost
Guarantees task plan (PlanRejected line) = (cost : ℕ) → SpellsValidPlan task plan cost → ⊥
Guarantees task plan Unsolvable = HasNoValidPlan task
Guarantees task plan (AtLeast bound) = EveryValidPlanCostsAtLeast task bound
Guarantees task plan (ClaimRejected v) = Unit {0}
