-- The answers to the texts of a planning task and of a certificate.
use Rattle.std.specs.Prelude.{◌≡◌, ◌≢◌, ◌⊎◌, ℕ, ◌≤◌, ◌^◌, List, length, Err}
use Rattle.pddl_task.specs.Planning.{PlanningTask}
use Rattle.pddl.specs.Texts.{SpellTask, IsTaskRefusal}
use Rattle.pddl.specs.declared.fault.PddlFault.TheVariants as pddl_fault
use Rattle.cert_value.specs.Certificates.{FiniteDomain, Planning, CertificateValue, Variable}
use Rattle.cert_value.specs.Lawful.{IsLawful}
use Rattle.cert_text.specs.Spelling.{spelling}
use Rattle.cert_text.specs.Reading.{certificate_of}
use Rattle.cert_text.specs.declared.fault.CertFault.{CertFault}
use Rattle.cert_text.specs.declared.fault.CertFault.TheVariants as cert_fault
use Rattle.translate_vars.specs.Faults.{IsFirstFault}
use Rattle.translate_vars.specs.declared.fault.TranslateFault.TheVariants as fault
use Rattle.checker.specs.declared.fault.PlanningCheckFault.{PlanningCheckFault}
use Rattle.checker.specs.declared.fault.PlanningCheckFault.TheVariants.{OutOfMemory, Task, Cert, GroundLimit, Limit}
use Rattle.checker.specs.declared.verdict.PlanningVerdict.{PlanningVerdict}
use Rattle.checker.specs.Judgements.{Judged, atoms_of, placed_of, IsPlanningVerdict}

-- The text, of at most 1,073,741,824 bytes, spells the certificate, which is for a planning task and lists these atoms
-- and variables.
pub record SpellsPlanningCertificate (text : List ℕ) (c : CertificateValue) (words : List (List (List ℕ))) (variables : List Variable) : Type 0 where
  pub short : length text ≤ 2 ^ 30
  pub lawful : IsLawful c
  pub spelled : text ≡ spelling c
  pub kind : c.kind ≡ Planning words variables

-- The text, of at most 1,073,741,824 bytes, spells a certificate for a finite-domain task.
pub record SpellsOther (text : List ℕ) : Type 0 where
  pub short : length text ≤ 2 ^ 30
  pub certificate : CertificateValue
  pub lawful : IsLawful certificate
  pub spelled : text ≡ spelling certificate
  pub kind : certificate.kind ≡ FiniteDomain

-- The texts spell a task and a certificate for it.
pub record AreSpelled (domain problem cert : List ℕ) (j : Judged) (c : CertificateValue) : Type 0 where
  pub task_spelled : SpellTask domain problem j.task
  pub certificate_spelled : SpellsPlanningCertificate cert c j.words j.variables

-- The texts spell a task and a certificate for it, and the verdict is the one on the certificate.
pub record IsAnswer (domain problem cert : List ℕ) (verdict : PlanningVerdict) : Type 0 where
  pub judged : Judged
  pub certificate : CertificateValue
  pub spelled : AreSpelled domain problem cert judged certificate
  pub holds : IsPlanningVerdict judged certificate verdict

-- the first fault of the text; a certificate of the other kind has its fault on line 2, which states the kind
abbrev pub IsCertificateFault : List ℕ → CertFault → Type 0
IsCertificateFault cert e = (certificate_of cert ≡ Err e) ⊎ ((e ≡ cert_fault.Expected 2) × SpellsOther cert)

-- There is no verdict on this certificate for the task: allocation failed, or a limit is exceeded.
abbrev pub IsUnjudged : Judged → PlanningCheckFault → Type 0
IsUnjudged j OutOfMemory = Unit {0}
IsUnjudged j GroundLimit = IsFirstFault j.task (atoms_of j) (placed_of j) fault.GroundLimit
IsUnjudged j (Limit l) = IsFirstFault j.task (atoms_of j) (placed_of j) (fault.Limit l)
IsUnjudged j (Task e) = ⊥
IsUnjudged j (Cert e) = ⊥

-- There is no verdict on a certificate: it is for a finite-domain task, or the parts that it lists have no verdict.
abbrev pub IsUnanswered : PlanningTask → CertificateValue → PlanningCheckFault → Type 0
IsUnanswered task c e =
    ((c.kind ≡ FiniteDomain) × (e ≡ Cert (cert_fault.Expected 2)))
    ⊎ ((words : List (List (List ℕ))) × (variables : List Variable) × (c.kind ≡ Planning words variables)
    × IsUnjudged (record { task = task; words = words; variables = variables }) e)

-- The texts of the task are refused with their first fault.
abbrev pub IsRefusedTask : List ℕ → List ℕ → PlanningCheckFault → Type 0
IsRefusedTask domain problem OutOfMemory = Unit {0}
IsRefusedTask domain problem (Task e) = (e ≢ pddl_fault.OutOfMemory) × IsTaskRefusal domain problem e
IsRefusedTask domain problem other = ⊥

-- The text of the certificate is refused with its first fault.
abbrev pub IsRefusedCertificate : List ℕ → PlanningCheckFault → Type 0
IsRefusedCertificate cert OutOfMemory = Unit {0}
IsRefusedCertificate cert (Cert e) = (e ≢ cert_fault.OutOfMemory) × IsCertificateFault cert e
IsRefusedCertificate cert other = ⊥

-- The texts of the task are refused; or they spell a task, and the text of the certificate is refused; or both
-- are read, and there is no verdict on the certificate.
abbrev pub IsRefusal : List ℕ → List ℕ → List ℕ → PlanningCheckFault → Type 0
IsRefusal domain problem cert e =
    IsRefusedTask domain problem e
    ⊎ (((task : PlanningTask) × SpellTask domain problem task) × IsRefusedCertificate cert e)
    ⊎ ((j : Judged) × (c : CertificateValue) × AreSpelled domain problem cert j c × IsUnjudged j e)
