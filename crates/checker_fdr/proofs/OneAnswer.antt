-- Texts have one verdict.
use Rattle.std.proofs.Common.{◌≡◌, ℕ, ◌<◌, ◌≤◌, ◌^◌, ◌-◌, List, length, sym, ap, subst, ◌∙◌}
use Rattle.fdr.specs.Tasks.{FiniteDomainTask}
use Rattle.sasfile_reader.proofs.Promises.{one_reading_is}
use Rattle.cert_value.specs.Certificates.{CertificateValue}
use Rattle.cert_text.proofs.Promises.{one_certificate}
use Rattle.checker_clauses.proofs.FirstViolations.{one_first, none_where_held}
use Rattle.checker_fdr.specs.declared.verdict.Verdict.{Verdict}
use Rattle.checker_fdr.specs.declared.verdict.Verdict.TheVariants.{Accepted, Rejected}
use Rattle.checker_fdr.specs.Verdicts.{IsVerdict}
use Rattle.checker_fdr.specs.Answers.{IsAnswer}

pub one_verdict : (task : FiniteDomainTask) (c : CertificateValue) (v w : Verdict) → IsVerdict task c v → IsVerdict task c w → v ≡ w
one_verdict task c (Accepted d) (Accepted e) p q = ap Accepted (p.0 ∙ sym q.0)
one_verdict task c (Accepted d) (Rejected y) p q = absurd (none_where_held task c y q p.1)
one_verdict task c (Rejected x) (Accepted e) p q = absurd (none_where_held task c x p q.1)
one_verdict task c (Rejected x) (Rejected y) p q = ap Rejected (one_first task c x y p q)

pub one_answer : (sas cert : List ℕ) (v w : Verdict) → length sas < 2 ^ 64 - 1 → IsAnswer sas cert v → IsAnswer sas cert w → v ≡ w
one_answer sas cert v w room p q =
    let same_task : p.task ≡ q.task = one_reading_is sas p.task q.task room p.spelled q.spelled in
    let same_certificate : p.certificate ≡ q.certificate =
    one_certificate p.certificate q.certificate p.certificate_spelled.lawful q.certificate_spelled.lawful
    (sym p.certificate_spelled.spelled ∙ q.certificate_spelled.spelled) (subst (λ (text : List ℕ). length text ≤ 2 ^ 30) p.certificate_spelled.spelled p.certificate_spelled.short) in
    one_verdict q.task q.certificate v w
    (subst (λ c. IsVerdict q.task c v) same_certificate (subst (λ t. IsVerdict t p.certificate v) same_task p.holds)) q.holds
