-- The answers to the texts of a finite-domain task and of a certificate.
use Rattle.std.specs.Prelude.{◌≡◌, ◌≢◌, ◌⊎◌, ℕ, ◌≤◌, ◌^◌, Bool, true, false, List, length, Err}
use Rattle.fdr.specs.Tasks.{FiniteDomainTask}
use Rattle.sasfile_reader.specs.SasTexts.{SpellsTask}
use Rattle.sasfile_reader.specs.Reading.{task_in}
use Rattle.sasfile_reader.specs.declared.fault.SasFault.TheVariants as sas_fault
use Rattle.cert_value.specs.Certificates.{Kind, FiniteDomain, Planning, CertificateValue}
use Rattle.cert_value.specs.Lawful.{IsLawful}
use Rattle.cert_text.specs.Spelling.{spelling}
use Rattle.cert_text.specs.Reading.{certificate_of}
use Rattle.cert_text.specs.declared.fault.CertFault.{CertFault}
use Rattle.cert_text.specs.declared.fault.CertFault.TheVariants as cert_fault
use Rattle.checker_fdr.specs.declared.verdict.Verdict.{Verdict}
use Rattle.checker_fdr.specs.declared.fault.CheckFault.{CheckFault}
use Rattle.checker_fdr.specs.declared.fault.CheckFault.TheVariants.{OutOfMemory, Sas, Cert}
use Rattle.checker_fdr.specs.Verdicts.{IsVerdict}

abbrev pub is_for_finite_domain : Kind → Bool
is_for_finite_domain FiniteDomain = true
is_for_finite_domain (Planning atoms variables) = false

-- The text, of at most 1,073,741,824 bytes, spells the certificate, which is for a finite-domain task.
pub record SpellsSasCertificate (text : List ℕ) (c : CertificateValue) : Type 0 where
  pub short : length text ≤ 2 ^ 30
  pub lawful : IsLawful c
  pub spelled : text ≡ spelling c
  pub kind : is_for_finite_domain c.kind ≡ true

-- The text, of at most 1,073,741,824 bytes, spells a certificate for a planning task.
pub record SpellsOther (text : List ℕ) : Type 0 where
  pub short : length text ≤ 2 ^ 30
  pub certificate : CertificateValue
  pub lawful : IsLawful certificate
  pub spelled : text ≡ spelling certificate
  pub kind : is_for_finite_domain certificate.kind ≡ false

-- The texts spell a task and a certificate, and the verdict is the one on the certificate.
pub record IsAnswer (sas cert : List ℕ) (verdict : Verdict) : Type 0 where
  pub task : FiniteDomainTask
  pub spelled : SpellsTask sas task
  pub certificate : CertificateValue
  pub certificate_spelled : SpellsSasCertificate cert certificate
  pub holds : IsVerdict task certificate verdict

-- the first fault of the text; a certificate of the other kind has its fault on line 2, which states the kind
abbrev pub IsCertificateFault : List ℕ → CertFault → Type 0
IsCertificateFault cert e = (certificate_of cert ≡ Err e) ⊎ ((e ≡ cert_fault.Expected 2) × SpellsOther cert)

-- The text of the task is refused with its first fault.
abbrev pub IsSasRefusal : List ℕ → CheckFault → Type 0
IsSasRefusal sas OutOfMemory = Unit {0}
IsSasRefusal sas (Sas e) = (e ≢ sas_fault.OutOfMemory) × (task_in sas ≡ Err e)
IsSasRefusal sas (Cert e) = ⊥

-- The text of the certificate is refused with its first fault.
abbrev pub IsCertRefusal : List ℕ → CheckFault → Type 0
IsCertRefusal cert OutOfMemory = Unit {0}
IsCertRefusal cert (Sas e) = ⊥
IsCertRefusal cert (Cert e) = (e ≢ cert_fault.OutOfMemory) × IsCertificateFault cert e

-- The text of the task is refused, or it spells a task and the text of the certificate is refused.
abbrev pub IsRefusal : List ℕ → List ℕ → CheckFault → Type 0
IsRefusal sas cert e = IsSasRefusal sas e ⊎ (((task : FiniteDomainTask) × SpellsTask sas task) × IsCertRefusal cert e)
