-- The files that a check reads, and their texts' refusals.
use Rattle.std.proofs.Common.{◌≡◌, ◌≢◌, ◌⊎◌, ℕ, List, inl, inr, refl, sym, subst}
use Rattle.sasfile_reader.specs.declared.fault.SasFault.{SasFault}
use Rattle.sasfile_reader.specs.declared.fault.SasFault.TheVariants as sas
use Rattle.cert_text.specs.declared.fault.CertFault.{CertFault}
use Rattle.cert_text.specs.declared.fault.CertFault.TheVariants as cert
use Rattle.checker_fdr.specs.declared.fault.CheckFault.{CheckFault}
use Rattle.checker_fdr.specs.declared.fault.CheckFault.TheVariants as check
use Rattle.optplan_replies.specs.declared.fault.Fault.{Fault}
use Rattle.optplan_replies.specs.declared.fault.Fault.TheVariants.{OutOfMemory}
use Rattle.optplan_replies.specs.declared.status.Status.TheVariants.{DeviceFailed}
use Rattle.optplan_replies.specs.Faults.{fault_status, fault_of_sas, fault_of_cert, fault_of_check}
use Rattle.optplan_verdicts.specs.SasChecking.{IsSasCheckRefusal}

-- a fault of the text of a task is no failure of the device
sas_status : (e : SasFault) → fault_status (fault_of_sas e) ≢ DeviceFailed
sas_status sas.OutOfMemory = λ failed. cc
sas_status (sas.Limit table) = λ failed. cc
sas_status (sas.Version line) = λ failed. cc
sas_status (sas.Expected line) = λ failed. cc
sas_status (sas.Range line) = λ failed. cc
sas_status (sas.Axioms line) = λ failed. cc
sas_status (sas.ConditionalEffect line) = λ failed. cc
sas_status sas.Truncated = λ failed. cc
sas_status (sas.Trailing line) = λ failed. cc

-- a fault of the text of a certificate is no failure of the device
cert_status : (e : CertFault) → fault_status (fault_of_cert e) ≢ DeviceFailed
cert_status cert.OutOfMemory = λ failed. cc
cert_status cert.Header = λ failed. cc
cert_status (cert.Expected line) = λ failed. cc
cert_status (cert.Number line) = λ failed. cc
cert_status cert.Truncated = λ failed. cc
cert_status (cert.Trailing line) = λ failed. cc
cert_status (cert.Order line) = λ failed. cc
cert_status (cert.Classes line) = λ failed. cc
cert_status cert.TooLong = λ failed. cc

-- a fault of the two texts is no failure of the device
check_fault_status : (f : CheckFault) → fault_status (fault_of_check f) ≢ DeviceFailed
check_fault_status check.OutOfMemory = λ failed. cc
check_fault_status (check.Sas e) = sas_status e
check_fault_status (check.Cert e) = cert_status e

-- a text's refusal is no failure of the device
pub sas_check_refusal_status : (s c : List ℕ) (e : Fault) → IsSasCheckRefusal s c e → fault_status e ≢ DeviceFailed
sas_check_refusal_status s c e refused = subst (λ (x : Fault). fault_status x ≢ DeviceFailed) (sym refused.fault_is) (check_fault_status refused.fault)

-- allocation may fail for any texts
memory_refused : (s c : List ℕ) → IsSasCheckRefusal s c OutOfMemory
memory_refused s c = record { fault = check.OutOfMemory; refused = inl tt; fault_is = refl }

-- a refusal's fault is that of the texts, or want of memory, with which any texts may be refused
pub sas_check_refusal_reported : (s c : List ℕ) (fault e : Fault) → (e ≡ fault) ⊎ (e ≡ OutOfMemory) → IsSasCheckRefusal s c fault → IsSasCheckRefusal s c e
sas_check_refusal_reported s c fault e (inl same) refused = subst (IsSasCheckRefusal s c) (sym same) refused
sas_check_refusal_reported s c fault e (inr memory) refused = subst (IsSasCheckRefusal s c) (sym memory) (memory_refused s c)
