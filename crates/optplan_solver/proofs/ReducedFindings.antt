-- What is found for a reduced task is found for the task.
use Rattle.std.proofs.Common.{◌≡◌, ℕ, ◌+◌, ◌<◌, ◌≤◌, ◌^◌, Bool, true, false, if◌then◌else◌, List, [], ◌∷◌, length, Option, Some, None, All, refl, sym, ap, subst, ◌∙◌, arith}
use Rattle.std.specs.List.{filter_map, cons_option}
use Rattle.std.specs.Option.{option_map}
use Rattle.std.proofs.lemmas.List.{length-map}
use Rattle.std.proofs.lemmas.List.Elements.{All-weaker}
use Rattle.std.specs.Prelude.{slice_get}
use Rattle.cost.specs.Distances.{Distance, Finite, Infinite}
use Rattle.fdr.specs.Tasks.{FiniteDomainTask, IsPlan}
use Rattle.cert_value.specs.Certificates.{CertificateValue}
use Rattle.cert_value.specs.Lawful.{IsLawful}
use Rattle.cert_value.specs.Views.{kind_of}
use Rattle.cert_value.specs.declared.certificate.CertificateKind.{CertificateKind}
use Rattle.cert_value.specs.declared.certificate.Version.TheVariants.{Two, Three}
use Rattle.checker_clauses.specs.Violations.{IsHeld}
use Rattle.reduction_classes.specs.Reduced.{reduced_operator, chosen}
use Rattle.reduction.specs.Reductions.{in_task}
use Rattle.reduction.specs.declared.reduction.Reduction.{Reduction}
use Rattle.reduction_certs.specs.InTask.{share_classes, certificate_in_task}
use Rattle.optplan_search.specs.Findings.{plain, wants, version_with, IsPlanAt, IsCertifiedBy, IsBestSoFar}
use Rattle.optplan_solver.specs.Reduced.{IsReductionOf, stated_classes}
use Rattle.optplan_search.specs.declared.found.FoundPlan.{FoundPlan}
use Rattle.optplan_solver.proofs.PlanTexts.{plan_operators_exist}

-- ---- plans

no_longer_with : {Y : Type 0} (r : Option Y) (ys : List Y) (n : ℕ) → length ys ≤ n → length (cons_option r ys) ≤ n + 1
no_longer_with None ys n le = omega (arith, le)
no_longer_with (Some y) ys n le = omega (arith, le)

no_longer : {X Y : Type 0} (f : X → Option Y) (xs : List X) → length (filter_map f xs) ≤ length xs
no_longer f [] = omega arith
no_longer f (x ∷ xs) = let le = no_longer_with (f x) (filter_map f xs) (length xs) (no_longer f xs) in omega (arith, le)

-- operators of the reduced task are among the retained ones
pub among_retained : (task : FiniteDomainTask) (r : Reduction) → IsReductionOf task r → (plan : List ℕ) → IsPlan r.task plan
    → All (λ o. o < length r.retained.items) plan
among_retained task r is plan leads =
    All-weaker (λ o. o < length r.task.operators) (λ o. o < length r.retained.items) (λ o lt. omega (arith, lt, count)) plan
    (plan_operators_exist r.task plan leads)
  where
    count : length r.task.operators ≤ length r.retained.items
    count =
        let same = ap (λ (t : FiniteDomainTask). length t.operators) is.task_is in
        let images = length-map (chosen task.operators r.retained.items) (reduced_operator r.classes) in
        let le = no_longer (slice_get task.operators) r.retained.items in
        omega (arith, same, images, le)

-- a plan of the reduced task is one of the task
pub plan_in_task : (task : FiniteDomainTask) (r : Reduction) → IsReductionOf task r → (plan made : List ℕ) (cost : ℕ) → IsPlanAt r.task plan cost
    → made ≡ in_task r.retained.items plan → IsPlanAt task made cost
plan_in_task task r is plan made cost at same =
    let exact = is.exact.plans plan at.leads in
    subst (λ (p : List ℕ). IsPlanAt task p cost) (sym same) (record { leads = exact.0; costs = exact.1 ∙ at.costs })

-- the best plan so far
pub best_in_task : (task reduced : FiniteDomainTask) (most : Distance) (before made : FoundPlan) → IsBestSoFar reduced most (Some before)
    → IsPlanAt task made.plan.items made.cost → made.cost ≡ before.cost → IsBestSoFar task most (Some made)
best_in_task task reduced Infinite before made best at same = absurd best
best_in_task task reduced (Finite most) before made best at same = (at, subst (λ (n : ℕ). n ≤ most) (sym same) best.1)

pub some_plan : (reduced : FiniteDomainTask) (most : Distance) (p : FoundPlan) → IsBestSoFar reduced most (Some p) → IsPlanAt reduced p.plan.items p.cost
some_plan reduced Infinite p best = absurd best
some_plan reduced (Finite most) p best = best.0

pub no_plan_yet : (task reduced : FiniteDomainTask) (most : Distance) → IsBestSoFar reduced most None → IsBestSoFar task most None
no_plan_yet task reduced Infinite best = tt
no_plan_yet task reduced (Finite most) best = absurd best

-- ---- certificates

stated_version_by : (row : List ℕ) (rows : List (List ℕ)) (shared : Bool)
    → version_with (if shared then row ∷ rows else []) ≡ (if shared then Three else Two)
stated_version_by row rows true = refl
stated_version_by row rows false = refl

-- a certificate is of version 3 exactly if it states classes
stated_version : (classes : List (List ℕ)) → version_with (stated_classes classes) ≡ (if share_classes classes then Three else Two)
stated_version [] = refl
stated_version (row ∷ rows) = stated_version_by row rows (share_classes (row ∷ rows))

-- a certificate for the reduced task has version 2
pub version_2 : (reduced : FiniteDomainTask) (wanted : Option CertificateKind) (bound : Distance) (c : CertificateValue)
    → IsCertifiedBy reduced (option_map plain wanted) bound (Some c) → c.version ≡ Two
version_2 reduced None bound c of = let none : Some c ≡ None = of in absurd cc
version_2 reduced (Some kind) bound c of = of.version_is

-- the certificate that says the same of the task
pub certified_in_task : (task reduced : FiniteDomainTask) (classes : List (List ℕ)) (representatives : List (Option ℕ)) (wanted : Option CertificateKind) (bound : Distance)
    (c made : CertificateValue) → IsCertifiedBy reduced (option_map plain wanted) bound (Some c) → made ≡ certificate_in_task classes representatives c
    → (IsHeld reduced c → IsHeld task made) → (IsLawful c → IsLawful made)
    → IsCertifiedBy task (wants (stated_classes classes) (option_map kind_of wanted)) bound (Some made)
certified_in_task task reduced classes representatives None bound c made of is held lawful = let none : Some c ≡ None = of in absurd cc
certified_in_task task reduced classes representatives (Some kind) bound c made of is held lawful = record {
  version_is = ap (λ (x : CertificateValue). x.version) is ∙ sym (stated_version classes);
  kind_is = ap (λ (x : CertificateValue). x.kind) is ∙ of.kind_is;
  classes_are = ap (λ (x : CertificateValue). x.classes) is;
  bound_is = ap (λ (x : CertificateValue). x.bound) is ∙ of.bound_is;
  held = held of.held;
  lawful = λ kinds few. lawful (of.lawful kinds (subst (λ (n : ℕ). n < 2 ^ 32) (ap (λ (x : CertificateValue). length x.closed) is) few));
}

pub uncertified : (task reduced : FiniteDomainTask) (classes : List (List ℕ)) (wanted : Option CertificateKind) (bound : Distance)
    → IsCertifiedBy reduced (option_map plain wanted) bound None → IsCertifiedBy task (wants classes (option_map kind_of wanted)) bound None
uncertified task reduced classes None bound of = refl
uncertified task reduced classes (Some kind) bound of = absurd of
