-- The verdict on a plan and the one on a certificate, together; and which fault a judgement has.
use Rattle.std.proofs.Common.{inl, inr, ◌≡◌, ℕ, ◌≤◌, List, sym, subst, arith}
use Rattle.std.specs.Prelude.{Result, Ok, Err, IfOk, IfErr, IsErrAnd}
use Rattle.cost.specs.Distances.{Distance, Finite, Infinite, ◌≤ᵈ◌}
use Rattle.pddl_task.specs.Planning.{PlanningTask}
use Rattle.pddl_task.specs.Plans.{EveryValidPlanCostsAtLeast}
use Rattle.pddl.specs.Texts.{SpellTask, IsTaskRefusal}
use Rattle.pddl.specs.declared.fault.PddlFault.{PddlFault}
use Rattle.pddl.proofs.TaskTexts.{one_task_is}
use Rattle.pddl.specs.declared.fault.PddlFault.TheVariants as task_fault
use Rattle.translate_theory.specs.Bounds.{ValidPlansCostAtLeast}
use Rattle.validate.specs.Steps.{Step}
use Rattle.validate.specs.PlanTexts.{SpellsPlan, IsPlanFault}
use Rattle.validate.specs.Verdicts.{IsVerdict}
use Rattle.validate.specs.declared.verdict.Verdict.{Verdict}
use Rattle.validate.specs.declared.verdict.Verdict.TheVariants.{Valid}
use Rattle.validate.proofs.PlanLaws.{one_plan_is}
use Rattle.validate.proofs.VerdictTheorem.{one_verdict_is}
use Rattle.validate.specs.declared.plan.PlanFault.{PlanFault}
use Rattle.validate.specs.declared.plan.PlanFault.TheVariants as plan_fault
use Rattle.checker.specs.Answers as checked
use Rattle.checker.specs.declared.fault.PlanningCheckFault.{PlanningCheckFault}
use Rattle.checker.specs.declared.fault.PlanningCheckFault.TheVariants as check
use Rattle.checker.specs.declared.verdict.PlanningVerdict.TheVariants.{Accepted}
use Rattle.optplan_optimal.specs.declared.fault.OptimalityFault.{OptimalityFault}
use Rattle.optplan_optimal.specs.declared.verdict.OptimalityVerdict.{OptimalityVerdict}
use Rattle.optplan_optimal.specs.Faults.{fault_of_task, fault_of_plan, fault_of_check}
use Rattle.optplan_optimal.specs.Plans.{ClaimsUnsolvable, SpellsValidPlan}
use Rattle.optplan_optimal.specs.Answers.{IsCertificateJudged, IsRefusal}
use Rattle.optplan_optimal.specs.Guarantees.{Guarantees}

-- ---- faults

pub refusal_of_task : (domain problem plan cert : List ℕ) (e : PddlFault) → IsTaskRefusal domain problem e → IsRefusal domain problem plan cert (fault_of_task e)
refusal_of_task domain problem plan cert task_fault.OutOfMemory h = tt
refusal_of_task domain problem plan cert (task_fault.Tree file e) h = ((λ k. cc), h)
refusal_of_task domain problem plan cert (task_fault.Section file e) h = ((λ k. cc), h)

pub refusal_of_plan : (domain problem plan cert : List ℕ) (task : PlanningTask) (e : PlanFault) → SpellTask domain problem task
    → (ClaimsUnsolvable plan → ⊥) → IsPlanFault plan e → IsRefusal domain problem plan cert (fault_of_plan e)
refusal_of_plan domain problem plan cert task plan_fault.OutOfMemory s n h = tt
refusal_of_plan domain problem plan cert task (plan_fault.Tree e) s n h = ((λ k. cc), (task, s), n, h)
refusal_of_plan domain problem plan cert task (plan_fault.PlanShape at) s n h = ((λ k. cc), (task, s), n, h)
refusal_of_plan domain problem plan cert task plan_fault.PlanLimit s n h = ((λ k. cc), (task, s), n, h)

pub refusal_of_check : (domain problem plan cert : List ℕ) (e : PlanningCheckFault) → IsCertificateJudged domain problem plan
    → checked.IsRefusal domain problem cert e → IsRefusal domain problem plan cert (fault_of_check e)
refusal_of_check domain problem plan cert check.OutOfMemory j h = tt
refusal_of_check domain problem plan cert (check.Task e) j (inl h) = h
refusal_of_check domain problem plan cert (check.Task e) j (inr (inl h)) = absurd h.1
refusal_of_check domain problem plan cert (check.Task e) j (inr (inr h)) = absurd h.3
refusal_of_check domain problem plan cert (check.Cert e) j h = (j, h)
refusal_of_check domain problem plan cert check.GroundLimit j h = (j, h)
refusal_of_check domain problem plan cert (check.Limit l) j h = (j, h)

-- ---- bounds

pub at_least : (cost total : ℕ) (bound : Distance) → Finite cost ≤ᵈ bound → bound ≤ᵈ Finite total → cost ≤ total
at_least cost total (Finite n) h k = omega (arith, h, k)
at_least cost total Infinite h k = absurd k

-- every valid plan costs at least what a bound reaches
pub reached_cost : (task : PlanningTask) (cost : ℕ) (bound : Distance) → Finite cost ≤ᵈ bound → ValidPlansCostAtLeast task bound → EveryValidPlanCostsAtLeast task cost
reached_cost task cost bound h k = λ plan valid. at_least cost _ bound h (k plan valid)

pub bound_as : (task : PlanningTask) (a b : Distance) → a ≡ b → ValidPlansCostAtLeast task a → ValidPlansCostAtLeast task b
bound_as task a b e h = subst (λ (d : Distance). ValidPlansCostAtLeast task d) e h

pub answer_as : (domain problem cert : List ℕ) (a b : Distance) → a ≡ b → checked.IsAnswer domain problem cert (Accepted a) → checked.IsAnswer domain problem cert (Accepted b)
answer_as domain problem cert a b e h = subst (λ (d : Distance). checked.IsAnswer domain problem cert (Accepted d)) e h

-- ---- plans

pub spelled_valid : (task : PlanningTask) (plan : List ℕ) (steps : List Step) (verdict : Verdict) (cost : ℕ) → SpellsPlan plan steps → IsVerdict task steps verdict
    → verdict ≡ Valid cost → SpellsValidPlan task plan cost
spelled_valid task plan steps verdict cost s h is = record { steps = steps; spelled = s; valid = subst (λ (v : Verdict). IsVerdict task steps v) is h }

pub never_valid : (task : PlanningTask) (plan : List ℕ) (steps : List Step) (verdict : Verdict) → SpellsPlan plan steps → IsVerdict task steps verdict
    → ((cost : ℕ) → verdict ≡ Valid cost → ⊥) → (cost : ℕ) → SpellsValidPlan task plan cost → ⊥
never_valid task plan steps verdict s h not_valid cost v =
    let same = one_plan_is plan steps v.steps s v.spelled in
    not_valid cost (one_verdict_is task v.steps verdict (Valid cost) (subst (λ (xs : List Step). IsVerdict task xs verdict) same h) v.valid)

-- ---- results

pub err_as : {T : Type 0} (r : Result T OptimalityFault) (x : OptimalityFault) (P : OptimalityFault → Type 0) → IsErrAnd r (λ y. y ≡ x) → P x → IfErr r P
err_as (Ok v) x P h p = tt
err_as (Err y) x P h p = subst P (sym h) p

-- the texts spell one task
pub guaranteed : {E : Type 0} (domain problem plan : List ℕ) (t u : PlanningTask) (r : Result OptimalityVerdict E) → SpellTask domain problem t → SpellTask domain problem u
    → IfOk r (Guarantees t plan) → IfOk r (Guarantees u plan)
guaranteed domain problem plan t u r a b h = subst (λ (x : PlanningTask). IfOk r (Guarantees x plan)) (one_task_is domain problem t u a b) h
