-- Faults and their exit statuses.
use Rattle.sasfile_reader.specs.declared.fault.SasFault.{SasFault}
use Rattle.sasfile_reader.specs.declared.fault.SasFault.TheVariants as sas
use Rattle.cert_text.specs.declared.fault.CertFault.{CertFault}
use Rattle.cert_text.specs.declared.fault.CertFault.TheVariants as cert
use Rattle.checker_fdr.specs.declared.fault.CheckFault.{CheckFault}
use Rattle.checker_fdr.specs.declared.fault.CheckFault.TheVariants as check
use Rattle.optplan_replies.specs.declared.fault.Fault.{Fault}
use Rattle.optplan_replies.specs.declared.fault.Fault.TheVariants.{OutOfMemory, CannotRead, CannotWrite, Task, Plan, Sas, Cert, GroundLimit, TaskTooLarge, TotalTooLarge}
use Rattle.optplan_replies.specs.declared.status.Status.{Status}
use Rattle.optplan_replies.specs.declared.status.Status.TheVariants as exit

-- the exit status of a fault
abbrev pub fault_status : Fault → Status
fault_status OutOfMemory = exit.OutOfMemory
fault_status (CannotRead file) = exit.DeviceFailed
fault_status (CannotWrite file) = exit.DeviceFailed
fault_status (Task e word) = exit.Refused
fault_status (Plan e) = exit.Refused
fault_status (Sas e) = exit.Refused
fault_status (Cert e) = exit.Refused
fault_status GroundLimit = exit.Refused
fault_status (TaskTooLarge table) = exit.Refused
fault_status TotalTooLarge = exit.Refused

-- a fault of the text of a finite-domain task, as the program's
abbrev pub fault_of_sas : SasFault → Fault
fault_of_sas sas.OutOfMemory = OutOfMemory
fault_of_sas (sas.Limit table) = Sas (sas.Limit table)
fault_of_sas (sas.Version line) = Sas (sas.Version line)
fault_of_sas (sas.Expected line) = Sas (sas.Expected line)
fault_of_sas (sas.Range line) = Sas (sas.Range line)
fault_of_sas (sas.Axioms line) = Sas (sas.Axioms line)
fault_of_sas (sas.ConditionalEffect line) = Sas (sas.ConditionalEffect line)
fault_of_sas sas.Truncated = Sas sas.Truncated
fault_of_sas (sas.Trailing line) = Sas (sas.Trailing line)

-- a fault of the text of a certificate, as the program's
abbrev pub fault_of_cert : CertFault → Fault
fault_of_cert cert.OutOfMemory = OutOfMemory
fault_of_cert cert.Header = Cert cert.Header
fault_of_cert (cert.Expected line) = Cert (cert.Expected line)
fault_of_cert (cert.Number line) = Cert (cert.Number line)
fault_of_cert cert.Truncated = Cert cert.Truncated
fault_of_cert (cert.Trailing line) = Cert (cert.Trailing line)
fault_of_cert (cert.Order line) = Cert (cert.Order line)
fault_of_cert (cert.Classes line) = Cert (cert.Classes line)
fault_of_cert cert.TooLong = Cert cert.TooLong

-- a fault of the texts of a finite-domain task and of a certificate for it, as the program's
abbrev pub fault_of_check : CheckFault → Fault
fault_of_check check.OutOfMemory = OutOfMemory
fault_of_check (check.Sas e) = fault_of_sas e
fault_of_check (check.Cert e) = fault_of_cert e
