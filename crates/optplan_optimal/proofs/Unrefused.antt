-- Four texts with a verdict have no fault.
use Rattle.std.proofs.Common.{inl, inr, ◌≢◌, ◌⊎◌, ℕ, List, refl}
use Rattle.pddl_task.specs.Planning.{PlanningTask}
use Rattle.pddl.specs.Texts.{SpellTask}
use Rattle.pddl.proofs.TaskTexts.{spelled_not_refused_is}
use Rattle.validate.specs.Steps.{Step}
use Rattle.validate.specs.PlanTexts.{SpellsPlan}
use Rattle.validate.proofs.PlanLaws.{plan_clean}
use Rattle.checker.specs.Answers as checked
use Rattle.checker.specs.declared.verdict.PlanningVerdict.{PlanningVerdict}
use Rattle.optplan_optimal.specs.declared.fault.OptimalityFault.{OptimalityFault}
use Rattle.optplan_optimal.specs.declared.fault.OptimalityFault.TheVariants.{OutOfMemory, Task, Plan, Cert, GroundLimit, Limit}
use Rattle.optplan_optimal.specs.declared.verdict.OptimalityVerdict.{OptimalityVerdict}
use Rattle.optplan_optimal.specs.Plans.{ClaimsUnsolvable}
use Rattle.optplan_optimal.specs.Answers.{IsAnswer, IsRefusal, IsCertificateJudged}
use Rattle.optplan_optimal.proofs.Claims.{claim_spells_none}
use Rattle.optplan_optimal.proofs.OneAnswer.{OfValid, OfInvalid, OfClaim, parts_of, valid_or_not}
use Rattle.optplan_optimal.proofs.CheckedTexts.{no_refused_certificate, no_ground_limit, no_task_limit}

-- the plan's text is read: it spells a plan, or claims that there is no valid one
abbrev IsPlanRead : List ℕ → Type 0
IsPlanRead plan = ((steps : List Step) × SpellsPlan plan steps) ⊎ ClaimsUnsolvable plan

-- the certificate is not judged, or has a verdict
abbrev IsCertificateDone : List ℕ → List ℕ → List ℕ → List ℕ → Type 0
IsCertificateDone domain problem plan cert = (IsCertificateJudged domain problem plan → ⊥) ⊎ ((v : PlanningVerdict) × checked.IsAnswer domain problem cert v)

done_by : (domain problem plan cert : List ℕ) (R : Type 0) → IsCertificateDone domain problem plan cert → IsCertificateJudged domain problem plan
    → R → ((v : PlanningVerdict) → checked.IsAnswer domain problem cert v → R → ⊥) → ⊥
done_by domain problem plan cert R (inl not) judged r f = not judged
done_by domain problem plan cert R (inr (v, a)) judged r f = f v a r

no_fault : (domain problem plan cert : List ℕ) (t : PlanningTask) (e : OptimalityFault) → SpellTask domain problem t → IsPlanRead plan
    → IsCertificateDone domain problem plan cert → e ≢ OutOfMemory → IsRefusal domain problem plan cert e → ⊥
no_fault domain problem plan cert t OutOfMemory s read done ne h = ne refl
no_fault domain problem plan cert t (Task e) s read done ne h = h.0 (spelled_not_refused_is domain problem t e s h.1)
no_fault domain problem plan cert t (Plan e) s (inl (steps, p)) done ne h = plan_clean plan steps e p h.0 h.3
no_fault domain problem plan cert t (Plan e) s (inr claims) done ne h = h.2 claims
no_fault domain problem plan cert t (Cert e) s read done ne h =
    done_by domain problem plan cert _ done h.0 h.1 (λ v a r. no_refused_certificate domain problem cert v e a r)
no_fault domain problem plan cert t GroundLimit s read done ne h =
    done_by domain problem plan cert _ done h.0 h.1 (λ v a r. no_ground_limit domain problem cert v a r)
no_fault domain problem plan cert t (Limit l) s read done ne h =
    done_by domain problem plan cert _ done h.0 h.1 (λ v a r. no_task_limit domain problem cert v l a r)

not_judged : (domain problem plan : List ℕ) (v : OptimalityVerdict) → OfInvalid domain problem plan v → IsCertificateJudged domain problem plan → ⊥
not_judged domain problem plan v p (inl (cost, valid)) = valid_or_not domain problem plan cost p.line valid p.plan_spelled
not_judged domain problem plan v p (inr claims) = claim_spells_none plan p.plan_spelled.plan_spelled.steps claims p.plan_spelled.plan_spelled.spelled

by_parts : (domain problem plan cert : List ℕ) (v : OptimalityVerdict) (e : OptimalityFault)
    → OfValid domain problem plan cert v ⊎ OfInvalid domain problem plan v ⊎ OfClaim domain problem plan cert v
    → e ≢ OutOfMemory → IsRefusal domain problem plan cert e → ⊥
by_parts domain problem plan cert v e (inl p) ne h =
    let s = p.plan_spelled in
    no_fault domain problem plan cert s.task e s.task_spelled (inl (s.plan_spelled.steps, s.plan_spelled.spelled)) (inr (p.certificate, p.certificate_checked)) ne h
by_parts domain problem plan cert v e (inr (inl p)) ne h =
    let s = p.plan_spelled in
    no_fault domain problem plan cert s.task e s.task_spelled (inl (s.plan_spelled.steps, s.plan_spelled.spelled)) (inl (not_judged domain problem plan v p)) ne h
by_parts domain problem plan cert v e (inr (inr p)) ne h =
    let a = p.certificate_checked in
    no_fault domain problem plan cert a.judged.task e a.spelled.task_spelled (inr p.claimed) (inr (p.certificate, a)) ne h

pub answered_not_refused : (domain problem plan cert : List ℕ) (v : OptimalityVerdict) (e : OptimalityFault) → IsAnswer domain problem plan cert v
    → e ≢ OutOfMemory → IsRefusal domain problem plan cert e → ⊥
answered_not_refused domain problem plan cert v e a ne h = by_parts domain problem plan cert v e (parts_of domain problem plan cert v a) ne h
