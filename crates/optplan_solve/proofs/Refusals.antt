-- Refusals are no failures of the device.
use Rattle.std.proofs.Common.{◌≡◌, ◌≢◌, ◌⊎◌, ℕ, List, inl, inr, ap, ◌∙◌, sym, subst}
use Rattle.fdr.specs.Tasks.{FiniteDomainTask}
use Rattle.optplan_options.specs.Choices.{Choices}
use Rattle.optplan_search.specs.declared.fault.SearchFault.{SearchFault}
use Rattle.optplan_search.specs.declared.fault.SearchFault.TheVariants as search
use Rattle.optplan_replies.specs.declared.status.Status.TheVariants.{DeviceFailed}
use Rattle.optplan_replies.specs.Faults.{fault_status}
use Rattle.optplan_replies.specs.declared.fault.Fault.{Fault}
use Rattle.optplan_replies.specs.declared.fault.Fault.TheVariants.{OutOfMemory, CannotRead, CannotWrite, Task, Plan, Sas, Cert, GroundLimit, TaskTooLarge, TotalTooLarge}
use Rattle.optplan_replies.specs.Reports.{IsTaskReport}
use Rattle.optplan_solve.specs.Outputs.{fault_of_search}
use Rattle.optplan_solve.specs.Solving.{IsTextRefusal, IsSearchReport}
use Rattle.optplan_solve.specs.SasSolving.{IsSasTextRefusal, IsSasSearchReport}
use Rattle.optplan_solve.specs.Schedules.{IsRefusedBy}
use Rattle.optplan_solve.specs.declared.settings.Schedule.{Schedule}
use Rattle.optplan_solve.specs.declared.settings.Schedule.TheVariants.{Threads, Drawn}

-- a report of the task's texts refuses them
pub refusal_of_report : (domain problem : List ℕ) (e : Fault) → IsTaskReport domain problem e → IsTextRefusal domain problem e
refusal_of_report domain problem OutOfMemory report = tt
refusal_of_report domain problem (CannotRead file) report = report
refusal_of_report domain problem (CannotWrite file) report = report
refusal_of_report domain problem (Task e word) report = report
refusal_of_report domain problem (Plan e) report = report
refusal_of_report domain problem (Sas e) report = report
refusal_of_report domain problem (Cert e) report = report
refusal_of_report domain problem GroundLimit report = absurd report
refusal_of_report domain problem (TaskTooLarge table) report = absurd report
refusal_of_report domain problem TotalTooLarge report = report

pub text_refusal_status : (domain problem : List ℕ) (e : Fault) → IsTextRefusal domain problem e → fault_status e ≢ DeviceFailed
text_refusal_status domain problem OutOfMemory refused = λ failed. cc
text_refusal_status domain problem (CannotRead file) refused = elim refused [ ]
text_refusal_status domain problem (CannotWrite file) refused = elim refused [ ]
text_refusal_status domain problem (Task e word) refused = λ failed. cc
text_refusal_status domain problem (Plan e) refused = elim refused [ ]
text_refusal_status domain problem (Sas e) refused = elim refused [ ]
text_refusal_status domain problem (Cert e) refused = elim refused [ ]
text_refusal_status domain problem GroundLimit refused = λ failed. cc
text_refusal_status domain problem (TaskTooLarge table) refused = λ failed. cc
text_refusal_status domain problem TotalTooLarge refused = elim refused [ ]

pub sas_text_refusal_status : (sas : List ℕ) (e : Fault) → IsSasTextRefusal sas e → fault_status e ≢ DeviceFailed
sas_text_refusal_status sas OutOfMemory refused = λ failed. cc
sas_text_refusal_status sas (CannotRead file) refused = elim refused [ ]
sas_text_refusal_status sas (CannotWrite file) refused = elim refused [ ]
sas_text_refusal_status sas (Task e word) refused = elim refused [ ]
sas_text_refusal_status sas (Plan e) refused = elim refused [ ]
sas_text_refusal_status sas (Sas e) refused = λ failed. cc
sas_text_refusal_status sas (Cert e) refused = elim refused [ ]
sas_text_refusal_status sas GroundLimit refused = elim refused [ ]
sas_text_refusal_status sas (TaskTooLarge table) refused = elim refused [ ]
sas_text_refusal_status sas TotalTooLarge refused = elim refused [ ]

search_status : (fault : SearchFault) → fault_status (fault_of_search fault) ≢ DeviceFailed
search_status search.OutOfMemory = λ failed. cc
search_status search.TotalTooLarge = λ failed. cc

pub search_report_status : (domain problem : List ℕ) (choices : Choices) (schedule : Schedule) (e : Fault) → IsSearchReport domain problem choices schedule e → fault_status e ≢ DeviceFailed
search_report_status domain problem choices schedule e r = λ failed. search_status r.fault (sym (ap fault_status r.fault_is) ∙ failed)

pub sas_search_report_status : (sas : List ℕ) (choices : Choices) (schedule : Schedule) (e : Fault) → IsSasSearchReport sas choices schedule e → fault_status e ≢ DeviceFailed
sas_search_report_status sas choices schedule e r = λ failed. search_status r.fault (sym (ap fault_status r.fault_is) ∙ failed)

-- a search by any schedule may be refused for want of memory
pub memory_refused : (choices : Choices) (schedule : Schedule) (task : FiniteDomainTask) → IsRefusedBy choices schedule task search.OutOfMemory
memory_refused choices (Threads watch) task = tt
memory_refused choices (Drawn seed) task = tt

-- a refusal's fault is that of the texts, or want of memory, with which any texts may be refused
pub text_refusal_reported : (domain problem : List ℕ) (fault e : Fault) → (e ≡ fault) ⊎ (e ≡ OutOfMemory) → IsTextRefusal domain problem fault → IsTextRefusal domain problem e
text_refusal_reported domain problem fault e (inl same) refused = subst (IsTextRefusal domain problem) (sym same) refused
text_refusal_reported domain problem fault e (inr memory) refused = subst (IsTextRefusal domain problem) (sym memory) tt

-- a refusal's fault is that of the texts, or want of memory, with which any texts may be refused
pub sas_text_refusal_reported : (sas : List ℕ) (fault e : Fault) → (e ≡ fault) ⊎ (e ≡ OutOfMemory) → IsSasTextRefusal sas fault → IsSasTextRefusal sas e
sas_text_refusal_reported sas fault e (inl same) refused = subst (IsSasTextRefusal sas) (sym same) refused
sas_text_refusal_reported sas fault e (inr memory) refused = subst (IsSasTextRefusal sas) (sym memory) tt
