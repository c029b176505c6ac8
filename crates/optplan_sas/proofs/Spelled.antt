-- A certificate that holds is accepted by its text.
use Rattle.std.proofs.Common.{◌≡◌, ℕ, ◌≤◌, ◌^◌, List, length, sym, ap, subst}
use Rattle.cost.specs.Distances.{Distance}
use Rattle.fdr.specs.Tasks.{FiniteDomainTask}
use Rattle.sasfile_reader.specs.SasTexts.{SpellsTask}
use Rattle.checker_fdr.specs.Answers.{is_for_finite_domain}
use Rattle.optplan_search.specs.Findings.{wanted_with, IsCertificateOf}
use Rattle.optplan_solver.proofs.WrittenAnswers.{few_entries}
use Rattle.optplan_sas.specs.SasAnswers.{IsAccepted}
use Rattle.cert_value.specs.Certificates.{FiniteDomain, CertificateValue}
use Rattle.cert_text.specs.Spelling.{spelling}

-- the checker accepts the text of a certificate that holds, and its bound
pub accepted : (sas : List ℕ) (task : FiniteDomainTask) (classes : List (List ℕ)) (bound : Distance) (c : CertificateValue) (text : List ℕ) → SpellsTask sas task
    → IsCertificateOf task (wanted_with classes FiniteDomain) bound c → text ≡ spelling c → IsAccepted sas text bound
accepted sas task classes bound c text spells of is =
    λ short.
    record {
      task = task;
      spelled = spells;
      certificate = c;
      certificate_spelled =
          record {
            short = short;
            lawful = of.lawful tt (few_entries c (subst (λ t. length t ≤ 2 ^ 30) is short));
            spelled = is;
            kind = ap is_for_finite_domain of.kind_is;
          };
      holds = (sym of.bound_is, of.held);
    }
