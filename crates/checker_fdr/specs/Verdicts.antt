-- The verdict on a certificate for a finite-domain task.
use Rattle.std.specs.Prelude.{◌≡◌, ℕ, ◌<◌, List, ◌++◌, Option, Some, None, codes, decimal}
use Rattle.cost.specs.Distances.{Distance, Finite, Infinite}
use Rattle.fdr.specs.Tasks.{FiniteDomainTask}
use Rattle.cert_value.specs.Certificates.{CertificateValue}
use Rattle.checker_clauses.specs.declared.violation.Violation.{Violation}
use Rattle.checker_clauses.specs.Violations.{clause_of, IsMet, IsFirstOfClause, IsFirstViolation, IsHeld, violation_text}
use Rattle.checker_fdr.specs.declared.verdict.Verdict.{Verdict}
use Rattle.checker_fdr.specs.declared.verdict.Verdict.TheVariants.{Accepted, Rejected}

-- it is accepted with its bound if it has no violation, otherwise rejected with its first violation
abbrev pub IsVerdict : FiniteDomainTask → CertificateValue → Verdict → Type 0
IsVerdict task c (Accepted bound) = (bound ≡ c.bound) × IsHeld task c
IsVerdict task c (Rejected v) = IsFirstViolation task c v

-- a number, or `unsolvable` for the infinite bound
abbrev pub bound_text : Distance → List ℕ
bound_text (Finite n) = decimal n
bound_text Infinite = codes "unsolvable"

-- the text of a verdict
abbrev pub verdict_text : Verdict → List ℕ
verdict_text (Accepted bound) = codes "accepted " ++ bound_text bound
verdict_text (Rejected v) = codes "rejected " ++ violation_text v

-- the clauses on columns and closed states with numbers below `k` are satisfied, for the task that they are about
abbrev pub AreMetBelow : FiniteDomainTask → CertificateValue → ℕ → Type 0
AreMetBelow task c k = (j : ℕ) → 0 < j → j < k → IsMet task c j

-- the result of the tests of these clauses: the first violation, or none
abbrev pub IsFoundBelow : FiniteDomainTask → CertificateValue → ℕ → Option Violation → Type 0
IsFoundBelow task c k None = AreMetBelow task c k
IsFoundBelow task c k (Some v) = (0 < clause_of v) × IsFirstOfClause task c v × AreMetBelow task c (clause_of v)

-- the first violation of the certificate, or none
abbrev pub IsFirstOrNone : FiniteDomainTask → CertificateValue → Option Violation → Type 0
IsFirstOrNone task c None = IsHeld task c
IsFirstOrNone task c (Some v) = IsFirstViolation task c v
