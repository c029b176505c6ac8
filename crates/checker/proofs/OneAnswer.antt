-- Texts have one verdict.
use Rattle.std.proofs.Common.{◌≡◌, ◌≢◌, ◌⊎◌, inl, inr, ℕ, ◌≤◌, ◌^◌, List, [], ◌++◌, length, Option, Some, None, refl, sym, ap, subst, ◌∙◌}
use Rattle.std.specs.Prelude.{slice_get, unwrap_or, IsSomeAnd, codes, decimal}
use Rattle.cert_value.specs.Certificates.{Planning, CertificateValue}
use Rattle.cert_text.proofs.Promises.{one_certificate}
use Rattle.pddl.proofs.TaskTexts.{one_task_is}
use Rattle.translate_vars.specs.Parts.{AreFit}
use Rattle.translate_vars.specs.Faults.{IsFirstFault}
use Rattle.translate_vars.specs.declared.fault.TranslateFault.{TranslateFault}
use Rattle.translate_vars.specs.declared.fault.TranslateFault.TheVariants as fault
use Rattle.translate_vars.proofs.StageLaws.{one_fault_of, none_if_fit}
use Rattle.checker_fdr.specs.Verdicts.{IsVerdict}
use Rattle.checker_fdr.specs.declared.verdict.Verdict.{Verdict}
use Rattle.checker_fdr.specs.declared.verdict.Verdict.TheVariants as over_variables
use Rattle.checker_fdr.proofs.OneAnswer.{one_verdict}
use Rattle.checker.specs.declared.verdict.PlanningViolation.{PlanningViolation}
use Rattle.checker.specs.declared.verdict.PlanningViolation.TheVariants.{Atom, Variable as VariablePlace, Uncovered, Task}
use Rattle.checker.specs.declared.verdict.PlanningVerdict.{PlanningVerdict}
use Rattle.checker.specs.declared.verdict.PlanningVerdict.TheVariants.{Accepted, Rejected}
use Rattle.checker.specs.Naming.{words_text, words_of}
use Rattle.checker.specs.Judgements.{violation_text, verdict_text, Judged, atoms_of, placed_of, finite_domain_task, IsPlaceOf, IsPlanningVerdict}
use Rattle.checker.specs.Answers.{IsAnswer}

-- ---- the place of a fault

listed_words : (listed : Option (List (List ℕ))) (text : List ℕ) → IsSomeAnd listed (λ words. text ≡ words_text words) → text ≡ words_text (unwrap_or listed [])
listed_words (Some words) text h = h
listed_words None text h = absurd h

-- the text of the violation that a first fault stands for
abbrev place_text : Judged → TranslateFault → List ℕ
place_text j (fault.BadAtom k) = codes "C1 atom " ++ words_text (unwrap_or (slice_get j.words k) [])
place_text j (fault.Missing p) = codes "C1 atom " ++ words_text (words_of j.task.vocabulary p)
place_text j (fault.NotClosed p) = codes "C1 atom " ++ words_text (words_of j.task.vocabulary p)
place_text j (fault.Misplaced v) = codes "C2 var " ++ decimal v
place_text j (fault.NotGroup v) = codes "C2 var " ++ decimal v
place_text j (fault.NotFull v) = codes "C2 var " ++ decimal v
place_text j (fault.Uncovered k) = codes "C2 atom " ++ words_text (unwrap_or (slice_get j.words k) [])
place_text j other = []

text_of_place : (j : Judged) (e : TranslateFault) (v : PlanningViolation) → IsPlaceOf j e v → violation_text v ≡ place_text j e
text_of_place j (fault.BadAtom k) (Atom s) place = ap (λ (text : List ℕ). codes "C1 atom " ++ text) (listed_words (slice_get j.words k) _ place)
text_of_place j (fault.Missing p) (Atom s) place = ap (λ (text : List ℕ). codes "C1 atom " ++ text) place
text_of_place j (fault.NotClosed p) (Atom s) place = ap (λ (text : List ℕ). codes "C1 atom " ++ text) place
text_of_place j (fault.Misplaced v) (VariablePlace u) place = ap (λ (n : ℕ). codes "C2 var " ++ decimal n) (sym place)
text_of_place j (fault.NotGroup v) (VariablePlace u) place = ap (λ (n : ℕ). codes "C2 var " ++ decimal n) (sym place)
text_of_place j (fault.NotFull v) (VariablePlace u) place = ap (λ (n : ℕ). codes "C2 var " ++ decimal n) (sym place)
text_of_place j (fault.Uncovered k) (Uncovered s) place = ap (λ (text : List ℕ). codes "C2 atom " ++ text) (listed_words (slice_get j.words k) _ place)
text_of_place j e v place = absurd place

-- want of memory has no place
place_in_texts : (j : Judged) (e : TranslateFault) (v : PlanningViolation) → IsPlaceOf j e v → e ≢ fault.OutOfMemory
place_in_texts j e v place is = subst (λ (f : TranslateFault). IsPlaceOf j f v) is place

-- ---- the verdict on a certificate

abbrev of_finite : Verdict → PlanningVerdict
of_finite (over_variables.Accepted bound) = Accepted bound
of_finite (over_variables.Rejected v) = Rejected (Task v)

-- the verdict for the finite-domain task over atoms and variables that are fit
record IsOfTask (j : Judged) (c : CertificateValue) (v : PlanningVerdict) : Type 0 where
  fit : AreFit j.task (atoms_of j) (placed_of j)
  finite : Verdict
  holds : IsVerdict (finite_domain_task j) c finite
  same : v ≡ of_finite finite

-- the first fault of atoms and variables that are not
record IsOfParts (j : Judged) (v : PlanningVerdict) : Type 0 where
  fault : TranslateFault
  first : IsFirstFault j.task (atoms_of j) (placed_of j) fault
  violation : PlanningViolation
  place : IsPlaceOf j fault violation
  same : v ≡ Rejected violation

either_of : (j : Judged) (c : CertificateValue) (v : PlanningVerdict) → IsPlanningVerdict j c v → IsOfTask j c v ⊎ IsOfParts j v
either_of j c (Accepted bound) (fit, holds) = inl (record { fit = fit; finite = over_variables.Accepted bound; holds = holds; same = refl })
either_of j c (Rejected (Task v)) (fit, holds) = inl (record { fit = fit; finite = over_variables.Rejected v; holds = holds; same = refl })
either_of j c (Rejected (Atom s)) (e, first, place) = inr (record { fault = e; first = first; violation = Atom s; place = place; same = refl })
either_of j c (Rejected (VariablePlace k)) (e, first, place) = inr (record { fault = e; first = first; violation = VariablePlace k; place = place; same = refl })
either_of j c (Rejected (Uncovered s)) (e, first, place) = inr (record { fault = e; first = first; violation = Uncovered s; place = place; same = refl })

not_both : (j : Judged) (c : CertificateValue) (v w : PlanningVerdict) → IsOfTask j c v → IsOfParts j w → ⊥
not_both j c v w p q = none_if_fit j.task (atoms_of j) (placed_of j) q.fault (place_in_texts j q.fault q.violation q.place) q.first p.fit

one_of_task : (j : Judged) (c : CertificateValue) (v w : PlanningVerdict) → IsOfTask j c v → IsOfTask j c w → v ≡ w
one_of_task j c v w p q = p.same ∙ ap of_finite (one_verdict (finite_domain_task j) c p.finite q.finite p.holds q.holds) ∙ sym q.same

rejected_text : (v : PlanningViolation) (text : List ℕ) → violation_text v ≡ text → verdict_text (Rejected v) ≡ codes "rejected " ++ text
rejected_text v text is = ap (λ (t : List ℕ). codes "rejected " ++ t) is

text_of_parts : (j : Judged) (v : PlanningVerdict) (p : IsOfParts j v) → verdict_text v ≡ codes "rejected " ++ place_text j p.fault
text_of_parts j v p = ap verdict_text p.same ∙ rejected_text p.violation (place_text j p.fault) (text_of_place j p.fault p.violation p.place)

one_of_parts : (j : Judged) (v w : PlanningVerdict) → IsOfParts j v → IsOfParts j w → verdict_text v ≡ verdict_text w
one_of_parts j v w p q =
    let same = one_fault_of j.task (atoms_of j) (placed_of j) p.fault q.fault (place_in_texts j p.fault p.violation p.place)
    (place_in_texts j q.fault q.violation q.place) p.first q.first in
    text_of_parts j v p ∙ ap (λ (e : TranslateFault). codes "rejected " ++ place_text j e) same ∙ sym (text_of_parts j w q)

one_by : (j : Judged) (c : CertificateValue) (v w : PlanningVerdict) → IsOfTask j c v ⊎ IsOfParts j v → IsOfTask j c w ⊎ IsOfParts j w → verdict_text v ≡ verdict_text w
one_by j c v w (inl p) (inl q) = ap verdict_text (one_of_task j c v w p q)
one_by j c v w (inl p) (inr q) = absurd (not_both j c v w p q)
one_by j c v w (inr p) (inl q) = absurd (not_both j c w v q p)
one_by j c v w (inr p) (inr q) = one_of_parts j v w p q

one_verdict_text : (j : Judged) (c : CertificateValue) (v w : PlanningVerdict) → IsPlanningVerdict j c v → IsPlanningVerdict j c w → verdict_text v ≡ verdict_text w
one_verdict_text j c v w p q = one_by j c v w (either_of j c v p) (either_of j c w q)

-- ---- the answer to texts

one_judged : (j k : Judged) → j.task ≡ k.task → Planning j.words j.variables ≡ Planning k.words k.variables → j ≡ k
one_judged j k task kind =
    let words : j.words ≡ k.words = cc kind in
    let variables : j.variables ≡ k.variables = cc kind in
    λ i. record { task = task i; words = words i; variables = variables i }

pub one_answer : (domain problem cert : List ℕ) (v w : PlanningVerdict) → IsAnswer domain problem cert v → IsAnswer domain problem cert w → verdict_text v ≡ verdict_text w
one_answer domain problem cert v w p q =
    let a = p.spelled.certificate_spelled in
    let b = q.spelled.certificate_spelled in
    let task : p.judged.task ≡ q.judged.task = one_task_is domain problem p.judged.task q.judged.task p.spelled.task_spelled q.spelled.task_spelled in
    let certificate : p.certificate ≡ q.certificate =
    one_certificate p.certificate q.certificate a.lawful b.lawful (sym a.spelled ∙ b.spelled) (subst (λ (text : List ℕ). length text ≤ 2 ^ 30) a.spelled a.short) in
    let judged : p.judged ≡ q.judged = one_judged p.judged q.judged task (sym a.kind ∙ ap (λ (c : CertificateValue). c.kind) certificate ∙ b.kind) in
    one_verdict_text q.judged q.certificate v w
    (subst (λ (c : CertificateValue). IsPlanningVerdict q.judged c v) certificate (subst (λ (j : Judged). IsPlanningVerdict j p.certificate v) judged p.holds)) q.holds
