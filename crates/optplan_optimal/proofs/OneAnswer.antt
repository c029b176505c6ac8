-- Four texts have one verdict: the plan's part of it, and the certificate's.
use Rattle.std.proofs.Common.{inl, inr, ◌≡◌, ◌⊎◌, ℕ, ◌<◌, ◌≤◌, ◌^◌, Bool, true, false, List, [], ◌∷◌, ◌++◌, length, refl, sym, ap, subst, ◌∙◌, arith}
use Rattle.std.specs.Prelude.{nat_lt, codes, decimal}
use Rattle.std.specs.String.{string_bytes}
use Rattle.std.proofs.lemmas.Bool.Decides.{nat_tests}
use Rattle.cost.specs.Distances.{Distance, Finite, Infinite, ◌≤ᵈ◌}
use Rattle.cert_value.specs.Certificates.{CertificateValue}
use Rattle.cert_value.specs.Lawful.{IsLawful}
use Rattle.cert_text.specs.Spelling.{spelling}
use Rattle.cert_text.proofs.Promises.{one_certificate}
use Rattle.pddl_task.specs.Planning.{PlanningTask}
use Rattle.pddl.specs.Texts.{SpellTask}
use Rattle.pddl.proofs.TaskTexts.{one_task_is}
use Rattle.validate.specs.Steps.{Step}
use Rattle.validate.specs.PlanTexts.{SpellsPlan}
use Rattle.validate.specs.Verdicts.{IsVerdict}
use Rattle.validate.specs.Written as plans
use Rattle.validate.specs.declared.verdict.Verdict.{Verdict}
use Rattle.validate.specs.declared.verdict.Verdict.TheVariants.{Valid}
use Rattle.validate.proofs.PlanLaws.{one_plan_is}
use Rattle.validate.proofs.VerdictTheorem.{one_verdict_is}
use Rattle.checker.specs.Answers as checked
use Rattle.checker.specs.Judgements as judged
use Rattle.checker.specs.declared.verdict.PlanningVerdict.{PlanningVerdict}
use Rattle.checker.specs.declared.verdict.PlanningVerdict.TheVariants.{Accepted, Rejected}
use Rattle.checker.proofs.OneAnswer as checker_laws
use Rattle.optplan_replies.specs.declared.status.Status.TheVariants as exit
use Rattle.optplan_optimal.specs.declared.verdict.OptimalityVerdict.{OptimalityVerdict}
use Rattle.optplan_optimal.specs.declared.verdict.OptimalityVerdict.TheVariants.{Optimal, Gap, CertificateRejected, PlanRejected, Unsolvable, AtLeast, ClaimRejected}
use Rattle.optplan_optimal.specs.Lines.{verdict_text}
use Rattle.optplan_optimal.specs.Statuses.{verdict_status}
use Rattle.optplan_optimal.specs.Plans.{ClaimsUnsolvable}
use Rattle.optplan_optimal.specs.Answers.{SpellTaskAndValidPlan, SpellTaskAndInvalidPlan, IsAnswer}
use Rattle.optplan_optimal.proofs.Claims.{claim_spells_none}

-- ---- the verdict on the plan

one_verdict_on : (domain problem plan : List ℕ) (t u : PlanningTask) (ss rs : List Step) (v w : Verdict) → SpellTask domain problem t → SpellTask domain problem u
    → SpellsPlan plan ss → SpellsPlan plan rs → IsVerdict t ss v → IsVerdict u rs w → v ≡ w
one_verdict_on domain problem plan t u ss rs v w a b p q h k =
    let task = one_task_is domain problem t u a b in
    let steps = one_plan_is plan ss rs p q in
    one_verdict_is u rs v w (subst (λ (xs : List Step). IsVerdict u xs v) steps (subst (λ (x : PlanningTask). IsVerdict x ss v) task h)) k

pub one_cost : (domain problem plan : List ℕ) (a b : ℕ) → SpellTaskAndValidPlan domain problem plan a → SpellTaskAndValidPlan domain problem plan b → a ≡ b
one_cost domain problem plan a b p q =
    let same : Valid a ≡ Valid b = one_verdict_on domain problem plan p.task q.task p.plan_spelled.steps q.plan_spelled.steps (Valid a) (Valid b) p.task_spelled q.task_spelled
    p.plan_spelled.spelled q.plan_spelled.spelled p.plan_spelled.valid q.plan_spelled.valid in
    cc same

pub valid_or_not : (domain problem plan : List ℕ) (cost : ℕ) (line : List ℕ) → SpellTaskAndValidPlan domain problem plan cost
    → SpellTaskAndInvalidPlan domain problem plan line → ⊥
valid_or_not domain problem plan cost line p q =
    q.plan_spelled.not_valid cost (one_verdict_on domain problem plan q.task p.task q.plan_spelled.steps p.plan_spelled.steps q.plan_spelled.verdict (Valid cost) q.task_spelled p.task_spelled
    q.plan_spelled.spelled p.plan_spelled.spelled q.plan_spelled.holds p.plan_spelled.valid)

one_line : (domain problem plan a b : List ℕ) → SpellTaskAndInvalidPlan domain problem plan a → SpellTaskAndInvalidPlan domain problem plan b → a ≡ b
one_line domain problem plan a b p q =
    let task = one_task_is domain problem p.task q.task p.task_spelled q.task_spelled in
    let verdict = one_verdict_on domain problem plan p.task q.task p.plan_spelled.steps q.plan_spelled.steps p.plan_spelled.verdict q.plan_spelled.verdict p.task_spelled q.task_spelled
    p.plan_spelled.spelled q.plan_spelled.spelled p.plan_spelled.holds q.plan_spelled.holds in
    p.plan_spelled.line_is
    ∙ ap (λ (t : PlanningTask). plans.verdict_text t.vocabulary p.plan_spelled.verdict) task
    ∙ ap (λ (v : Verdict). plans.verdict_text q.task.vocabulary v) verdict
    ∙ sym q.plan_spelled.line_is

-- ---- the verdict on the certificate

-- accepted with the same bound, or rejected with the same text
abbrev AreSame : PlanningVerdict → PlanningVerdict → Type 0
AreSame (Accepted a) (Accepted b) = a ≡ b
AreSame (Accepted a) (Rejected w) = ⊥
AreSame (Rejected v) (Accepted b) = ⊥
AreSame (Rejected v) (Rejected w) = judged.verdict_text (Rejected v) ≡ judged.verdict_text (Rejected w)

one_certificate_of : (cert : List ℕ) (c d : CertificateValue) → length cert ≤ 2 ^ 30 → cert ≡ spelling c → cert ≡ spelling d → IsLawful c → IsLawful d → c ≡ d
one_certificate_of cert c d short p q a b = one_certificate c d a b (sym p ∙ q) (subst (λ (text : List ℕ). length text ≤ 2 ^ 30) p short)

one_bound : (domain problem cert : List ℕ) (a b : Distance) → checked.IsAnswer domain problem cert (Accepted a) → checked.IsAnswer domain problem cert (Accepted b) → a ≡ b
one_bound domain problem cert a b p q =
    let s = p.spelled.certificate_spelled in
    let r = q.spelled.certificate_spelled in
    p.holds.1.0 ∙ ap (λ (c : CertificateValue). c.bound) (one_certificate_of cert p.certificate q.certificate s.short s.spelled r.spelled s.lawful r.lawful) ∙ sym q.holds.1.0

abbrev first : List ℕ → ℕ
first [] = 0
first (x ∷ xs) = x

accepted_or_not : (bound : Distance) (text : List ℕ) → judged.verdict_text (Accepted bound) ≡ codes "rejected " ++ text → ⊥
accepted_or_not bound text e = let h : 97 ≡ 114 = ap first e in omega (arith, h)

same_certificate : (domain problem cert : List ℕ) (v w : PlanningVerdict) → checked.IsAnswer domain problem cert v → checked.IsAnswer domain problem cert w → AreSame v w
same_certificate domain problem cert (Accepted a) (Accepted b) p q = one_bound domain problem cert a b p q
same_certificate domain problem cert (Accepted a) (Rejected w) p q = accepted_or_not a (judged.violation_text w) (checker_laws.one_answer domain problem cert (Accepted a) (Rejected w) p q)
same_certificate domain problem cert (Rejected v) (Accepted b) p q = accepted_or_not b (judged.violation_text v) (checker_laws.one_answer domain problem cert (Accepted b) (Rejected v) q p)
same_certificate domain problem cert (Rejected v) (Rejected w) p q = checker_laws.one_answer domain problem cert (Rejected v) (Rejected w) p q

-- ---- both

abbrev on_valid_by : Bool → ℕ → ℕ → OptimalityVerdict
on_valid_by true cost bound = Gap cost bound
on_valid_by false cost bound = Optimal cost

-- the verdict on a valid plan, and the one on the claim that there is none
abbrev on_valid : ℕ → PlanningVerdict → OptimalityVerdict
on_valid cost (Accepted (Finite bound)) = on_valid_by (nat_lt bound cost) cost bound
on_valid cost (Accepted Infinite) = Optimal cost
on_valid cost (Rejected v) = CertificateRejected cost v

abbrev on_claim : PlanningVerdict → OptimalityVerdict
on_claim (Accepted (Finite bound)) = AtLeast bound
on_claim (Accepted Infinite) = Unsolvable
on_claim (Rejected v) = ClaimRejected v

pub record OfValid (domain problem plan cert : List ℕ) (v : OptimalityVerdict) : Type 0 where
  pub cost : ℕ
  pub plan_spelled : SpellTaskAndValidPlan domain problem plan cost
  pub certificate : PlanningVerdict
  pub certificate_checked : checked.IsAnswer domain problem cert certificate
  same : v ≡ on_valid cost certificate

pub record OfInvalid (domain problem plan : List ℕ) (v : OptimalityVerdict) : Type 0 where
  pub line : List ℕ
  pub plan_spelled : SpellTaskAndInvalidPlan domain problem plan line
  line_is : verdict_text v ≡ line
  status_is : verdict_status v ≡ exit.Rejected

pub record OfClaim (domain problem plan cert : List ℕ) (v : OptimalityVerdict) : Type 0 where
  pub claimed : ClaimsUnsolvable plan
  pub certificate : PlanningVerdict
  pub certificate_checked : checked.IsAnswer domain problem cert certificate
  same : v ≡ on_claim certificate

not_less : (bound cost : ℕ) → cost ≤ bound → false ≡ nat_lt bound cost
not_less bound cost h = grind (arith, nat_tests)

is_less : (bound cost : ℕ) → bound < cost → true ≡ nat_lt bound cost
is_less bound cost h = grind (arith, nat_tests)

optimal_by : (domain problem plan cert : List ℕ) (cost : ℕ) (bound : Distance) → SpellTaskAndValidPlan domain problem plan cost
    → checked.IsAnswer domain problem cert (Accepted bound) → Finite cost ≤ᵈ bound → OfValid domain problem plan cert (Optimal cost)
optimal_by domain problem plan cert cost (Finite bound) s a h =
    record { cost = cost; plan_spelled = s; certificate = Accepted (Finite bound); certificate_checked = a; same = ap (λ (t : Bool). on_valid_by t cost bound) (not_less bound cost h) }
optimal_by domain problem plan cert cost Infinite s a h =
    record { cost = cost; plan_spelled = s; certificate = Accepted Infinite; certificate_checked = a; same = refl }

pub parts_of : (domain problem plan cert : List ℕ) (v : OptimalityVerdict) → IsAnswer domain problem plan cert v
    → OfValid domain problem plan cert v ⊎ OfInvalid domain problem plan v ⊎ OfClaim domain problem plan cert v
parts_of domain problem plan cert (Optimal cost) (s, (bound, a, h)) = inl (optimal_by domain problem plan cert cost bound s a h)
parts_of domain problem plan cert (Gap cost bound) (s, a, h) =
    inl (record { cost = cost; plan_spelled = s; certificate = Accepted (Finite bound); certificate_checked = a; same = ap (λ (t : Bool). on_valid_by t cost bound) (is_less bound cost h) })
parts_of domain problem plan cert (CertificateRejected cost v) (s, a) =
    inl (record { cost = cost; plan_spelled = s; certificate = Rejected v; certificate_checked = a; same = refl })
parts_of domain problem plan cert (PlanRejected line) s = inr (inl (record { line = string_bytes line; plan_spelled = s; line_is = refl; status_is = refl }))
parts_of domain problem plan cert Unsolvable (s, a) = inr (inr (record { claimed = s; certificate = Accepted Infinite; certificate_checked = a; same = refl }))
parts_of domain problem plan cert (AtLeast bound) (s, a) = inr (inr (record { claimed = s; certificate = Accepted (Finite bound); certificate_checked = a; same = refl }))
parts_of domain problem plan cert (ClaimRejected v) (s, a) = inr (inr (record { claimed = s; certificate = Rejected v; certificate_checked = a; same = refl }))

abbrev ReadTheSame : OptimalityVerdict → OptimalityVerdict → Type 0
ReadTheSame v w = (verdict_text v ≡ verdict_text w) × (verdict_status v ≡ verdict_status w)

as_equal : (v w : OptimalityVerdict) → v ≡ w → ReadTheSame v w
as_equal v w e = (ap verdict_text e, ap verdict_status e)

same_on_valid : (cost : ℕ) (v w : PlanningVerdict) → AreSame v w → ReadTheSame (on_valid cost v) (on_valid cost w)
same_on_valid cost (Accepted a) (Accepted b) e = as_equal _ _ (ap (λ (d : Distance). on_valid cost (Accepted d)) e)
same_on_valid cost (Accepted a) (Rejected w) e = absurd e
same_on_valid cost (Rejected v) (Accepted b) e = absurd e
same_on_valid cost (Rejected v) (Rejected w) e = (ap (λ (t : List ℕ). codes "valid " ++ (decimal cost ++ (codes ", " ++ t))) e, refl)

same_on_claim : (v w : PlanningVerdict) → AreSame v w → ReadTheSame (on_claim v) (on_claim w)
same_on_claim (Accepted a) (Accepted b) e = as_equal _ _ (ap (λ (d : Distance). on_claim (Accepted d)) e)
same_on_claim (Accepted a) (Rejected w) e = absurd e
same_on_claim (Rejected v) (Accepted b) e = absurd e
same_on_claim (Rejected v) (Rejected w) e = (e, refl)

both_as : (v v' w w' : OptimalityVerdict) → v ≡ v' → w ≡ w' → ReadTheSame v' w' → ReadTheSame v w
both_as v v' w w' a b h = (ap verdict_text a ∙ h.0 ∙ sym (ap verdict_text b), ap verdict_status a ∙ h.1 ∙ sym (ap verdict_status b))

one_valid : (domain problem plan cert : List ℕ) (v w : OptimalityVerdict) → OfValid domain problem plan cert v → OfValid domain problem plan cert w → ReadTheSame v w
one_valid domain problem plan cert v w p q =
    let cost = one_cost domain problem plan p.cost q.cost p.plan_spelled q.plan_spelled in
    both_as v (on_valid q.cost p.certificate) w (on_valid q.cost q.certificate) (p.same ∙ ap (λ (c : ℕ). on_valid c p.certificate) cost) q.same
    (same_on_valid q.cost p.certificate q.certificate (same_certificate domain problem cert p.certificate q.certificate p.certificate_checked q.certificate_checked))

one_invalid : (domain problem plan : List ℕ) (v w : OptimalityVerdict) → OfInvalid domain problem plan v → OfInvalid domain problem plan w → ReadTheSame v w
one_invalid domain problem plan v w p q =
    (p.line_is ∙ one_line domain problem plan p.line q.line p.plan_spelled q.plan_spelled ∙ sym q.line_is, p.status_is ∙ sym q.status_is)

one_claim : (domain problem plan cert : List ℕ) (v w : OptimalityVerdict) → OfClaim domain problem plan cert v → OfClaim domain problem plan cert w → ReadTheSame v w
one_claim domain problem plan cert v w p q =
    both_as v (on_claim p.certificate) w (on_claim q.certificate) p.same q.same
    (same_on_claim p.certificate q.certificate (same_certificate domain problem cert p.certificate q.certificate p.certificate_checked q.certificate_checked))

valid_or_claim : (domain problem plan cert : List ℕ) (v w : OptimalityVerdict) → OfValid domain problem plan cert v → OfClaim domain problem plan cert w → ⊥
valid_or_claim domain problem plan cert v w p q = claim_spells_none plan p.plan_spelled.plan_spelled.steps q.claimed p.plan_spelled.plan_spelled.spelled

invalid_or_claim : (domain problem plan cert : List ℕ) (v w : OptimalityVerdict) → OfInvalid domain problem plan v → OfClaim domain problem plan cert w → ⊥
invalid_or_claim domain problem plan cert v w p q = claim_spells_none plan p.plan_spelled.plan_spelled.steps q.claimed p.plan_spelled.plan_spelled.spelled

one_by : (domain problem plan cert : List ℕ) (v w : OptimalityVerdict)
    → OfValid domain problem plan cert v ⊎ OfInvalid domain problem plan v ⊎ OfClaim domain problem plan cert v
    → OfValid domain problem plan cert w ⊎ OfInvalid domain problem plan w ⊎ OfClaim domain problem plan cert w → ReadTheSame v w
one_by domain problem plan cert v w (inl p) (inl q) = one_valid domain problem plan cert v w p q
one_by domain problem plan cert v w (inl p) (inr (inl q)) = absurd (valid_or_not domain problem plan p.cost q.line p.plan_spelled q.plan_spelled)
one_by domain problem plan cert v w (inl p) (inr (inr q)) = absurd (valid_or_claim domain problem plan cert v w p q)
one_by domain problem plan cert v w (inr (inl p)) (inl q) = absurd (valid_or_not domain problem plan q.cost p.line q.plan_spelled p.plan_spelled)
one_by domain problem plan cert v w (inr (inl p)) (inr (inl q)) = one_invalid domain problem plan v w p q
one_by domain problem plan cert v w (inr (inl p)) (inr (inr q)) = absurd (invalid_or_claim domain problem plan cert v w p q)
one_by domain problem plan cert v w (inr (inr p)) (inl q) = absurd (valid_or_claim domain problem plan cert w v q p)
one_by domain problem plan cert v w (inr (inr p)) (inr (inl q)) = absurd (invalid_or_claim domain problem plan cert w v q p)
one_by domain problem plan cert v w (inr (inr p)) (inr (inr q)) = one_claim domain problem plan cert v w p q

pub one_answer : (domain problem plan cert : List ℕ) (v w : OptimalityVerdict) → IsAnswer domain problem plan cert v → IsAnswer domain problem plan cert w
    → (verdict_text v ≡ verdict_text w) × (verdict_status v ≡ verdict_status w)
one_answer domain problem plan cert v w h k = one_by domain problem plan cert v w (parts_of domain problem plan cert v h) (parts_of domain problem plan cert w k)
