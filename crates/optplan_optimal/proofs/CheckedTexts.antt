-- Texts with a verdict on the certificate have no fault in the certificate, and no limit is exceeded.
use Rattle.std.proofs.Common.{inl, inr, ◌≡◌, ◌≢◌, ℕ, ◌≤◌, ◌^◌, List, length, sym, ap, subst, ◌∙◌}
use Rattle.std.specs.Prelude.{Err}
use Rattle.cert_value.specs.Certificates.{CertificateValue, Kind, FiniteDomain, Planning}
use Rattle.cert_text.specs.Reading.{certificate_of}
use Rattle.cert_text.specs.declared.fault.CertFault.{CertFault}
use Rattle.cert_text.proofs.Promises.{one_certificate, not_both}
use Rattle.fdr.specs.declared.task.TaskLimit.{TaskLimit}
use Rattle.pddl.proofs.TaskTexts.{one_task_is}
use Rattle.translate_vars.specs.Faults.{IsFirstFault}
use Rattle.translate_vars.specs.declared.fault.TranslateFault.{TranslateFault}
use Rattle.translate_vars.specs.declared.fault.TranslateFault.TheVariants as fault
use Rattle.translate_vars.proofs.StageLaws.{one_fault_of, none_if_fit}
use Rattle.checker.specs.Judgements.{Judged, atoms_of, placed_of, IsPlaceOf, IsPlanningVerdict}
use Rattle.checker.specs.Answers.{IsAnswer, IsRefusal, IsCertificateFault, AreSpelled}
use Rattle.checker.specs.declared.fault.PlanningCheckFault.TheVariants as check
use Rattle.checker.specs.declared.verdict.PlanningVerdict.{PlanningVerdict}
use Rattle.checker.specs.declared.verdict.PlanningVerdict.TheVariants.{Accepted, Rejected}
use Rattle.checker.specs.declared.verdict.PlanningViolation.{PlanningViolation}
use Rattle.checker.specs.declared.verdict.PlanningViolation.TheVariants.{Atom, Variable, Uncovered, Task}

-- ---- the text of the certificate

kinds_differ : (c d : CertificateValue) → c ≡ d → (k : Kind) → c.kind ≡ k → d.kind ≡ FiniteDomain → k ≡ FiniteDomain
kinds_differ c d e k a b = sym a ∙ ap (λ (x : CertificateValue). x.kind) e ∙ b

no_certificate_fault : (domain problem cert : List ℕ) (j : Judged) (c : CertificateValue) (e : CertFault) → AreSpelled domain problem cert j c → IsCertificateFault cert e → ⊥
no_certificate_fault domain problem cert j c e s (inl is) =
    let t = s.certificate_spelled in
    not_both c e t.lawful (subst (λ (text : List ℕ). length text ≤ 2 ^ 30) t.spelled t.short) (subst (λ (text : List ℕ). certificate_of text ≡ Err e) t.spelled is)
no_certificate_fault domain problem cert j c e s (inr (at, other)) =
    let t = s.certificate_spelled in
    let same = one_certificate c other.certificate t.lawful other.lawful (sym t.spelled ∙ other.spelled) (subst (λ (text : List ℕ). length text ≤ 2 ^ 30) t.spelled t.short) in
    let k : Planning j.words j.variables ≡ FiniteDomain = kinds_differ c other.certificate same (Planning j.words j.variables) t.kind other.kind in
    cc

-- ---- limits

one_judged : (j k : Judged) → j.task ≡ k.task → Planning j.words j.variables ≡ Planning k.words k.variables → j ≡ k
one_judged j k task kind =
    let words : j.words ≡ k.words = cc kind in
    let variables : j.variables ≡ k.variables = cc kind in
    λ i. record { task = task i; words = words i; variables = variables i }

same_judged : (domain problem cert : List ℕ) (j k : Judged) (c d : CertificateValue) → AreSpelled domain problem cert j c → AreSpelled domain problem cert k d → j ≡ k
same_judged domain problem cert j k c d p q =
    let a = p.certificate_spelled in
    let b = q.certificate_spelled in
    let certificate = one_certificate c d a.lawful b.lawful (sym a.spelled ∙ b.spelled) (subst (λ (text : List ℕ). length text ≤ 2 ^ 30) a.spelled a.short) in
    one_judged j k (one_task_is domain problem j.task k.task p.task_spelled q.task_spelled) (sym a.kind ∙ ap (λ (x : CertificateValue). x.kind) certificate ∙ b.kind)

-- a fault that denotes no violation
record IsLimit (e : TranslateFault) : Type 0 where
  in_texts : e ≢ fault.OutOfMemory
  no_place : (j : Judged) (v : PlanningViolation) → IsPlaceOf j e v → ⊥

not_limited : (j : Judged) (e f : TranslateFault) (v : PlanningViolation) → IsLimit e → IsFirstFault j.task (atoms_of j) (placed_of j) e
    → IsFirstFault j.task (atoms_of j) (placed_of j) f → IsPlaceOf j f v → ⊥
not_limited j e f v limit h k place =
    let in_texts : f ≢ fault.OutOfMemory = λ is. subst (λ (g : TranslateFault). IsPlaceOf j g v) is place in
    let same = one_fault_of j.task (atoms_of j) (placed_of j) f e in_texts limit.in_texts k h in
    limit.no_place j v (subst (λ (g : TranslateFault). IsPlaceOf j g v) same place)

no_limit : (j : Judged) (c : CertificateValue) (e : TranslateFault) (v : PlanningVerdict) → IsLimit e → IsFirstFault j.task (atoms_of j) (placed_of j) e → IsPlanningVerdict j c v → ⊥
no_limit j c e (Accepted bound) limit h k = none_if_fit j.task (atoms_of j) (placed_of j) e limit.in_texts h k.0
no_limit j c e (Rejected (Task v)) limit h k = none_if_fit j.task (atoms_of j) (placed_of j) e limit.in_texts h k.0
no_limit j c e (Rejected (Atom s)) limit h (f, first, place) = not_limited j e f (Atom s) limit h first place
no_limit j c e (Rejected (Variable n)) limit h (f, first, place) = not_limited j e f (Variable n) limit h first place
no_limit j c e (Rejected (Uncovered s)) limit h (f, first, place) = not_limited j e f (Uncovered s) limit h first place

limit_of_atoms : IsLimit fault.GroundLimit
limit_of_atoms = record { in_texts = λ k. cc; no_place = λ j v h. h }

limit_of_task : (l : TaskLimit) → IsLimit (fault.Limit l)
limit_of_task l = record { in_texts = λ k. cc; no_place = λ j v h. h }

not_past : (domain problem cert : List ℕ) (v : PlanningVerdict) (e : TranslateFault) (j : Judged) (c : CertificateValue) → IsAnswer domain problem cert v → IsLimit e
    → AreSpelled domain problem cert j c → IsFirstFault j.task (atoms_of j) (placed_of j) e → ⊥
not_past domain problem cert v e j c p limit s h =
    let same = same_judged domain problem cert j p.judged c p.certificate s p.spelled in
    no_limit p.judged p.certificate e v limit (subst (λ (k : Judged). IsFirstFault k.task (atoms_of k) (placed_of k) e) same h) p.holds

-- ---- the answer

pub no_refused_certificate : (domain problem cert : List ℕ) (v : PlanningVerdict) (e : CertFault) → IsAnswer domain problem cert v → IsRefusal domain problem cert (check.Cert e) → ⊥
no_refused_certificate domain problem cert v e p (inl h) = h
no_refused_certificate domain problem cert v e p (inr (inl h)) = no_certificate_fault domain problem cert p.judged p.certificate e p.spelled h.1.1
no_refused_certificate domain problem cert v e p (inr (inr h)) = h.3

pub no_ground_limit : (domain problem cert : List ℕ) (v : PlanningVerdict) → IsAnswer domain problem cert v → IsRefusal domain problem cert check.GroundLimit → ⊥
no_ground_limit domain problem cert v p (inl h) = h
no_ground_limit domain problem cert v p (inr (inl h)) = h.1
no_ground_limit domain problem cert v p (inr (inr (j, c, s, h))) = not_past domain problem cert v fault.GroundLimit j c p limit_of_atoms s h

pub no_task_limit : (domain problem cert : List ℕ) (v : PlanningVerdict) (l : TaskLimit) → IsAnswer domain problem cert v → IsRefusal domain problem cert (check.Limit l) → ⊥
no_task_limit domain problem cert v l p (inl h) = h
no_task_limit domain problem cert v l p (inr (inl h)) = h.1
no_task_limit domain problem cert v l p (inr (inr (j, c, s, h))) = not_past domain problem cert v (fault.Limit l) j c p (limit_of_task l) s h
