-- Replies to four texts that were read.
use Rattle.std.proofs.Common.{◌≡◌, ◌≢◌, ◌≤◌, ◌+◌, ◌⊎◌, ℕ, Bool, true, false, List, [], inl, inr, sym, subst, ◌∙◌}
use Rattle.std.specs.Prelude.{Option, if◌then◌else◌, Result, Ok, Err, String, IfOk, IfErr}
use Rattle.optplan_explain.specs.Explanations.{IsExplanation, IsExplained}
use Rattle.optplan_replies.specs.declared.fault.Fault.{Fault}
use Rattle.optplan_replies.specs.declared.fault.Fault.TheVariants.{OutOfMemory, CannotRead, CannotWrite, Task, Plan, Sas, Cert, GroundLimit, TaskTooLarge, TotalTooLarge}
use Rattle.optplan_replies.specs.declared.status.Status.{Status}
use Rattle.optplan_replies.specs.declared.status.Status.TheVariants.{DeviceFailed}
use Rattle.optplan_replies.specs.Faults.{fault_status}
use Rattle.optplan_replies.specs.Reports.{IsTaskReport}
use Rattle.optplan_optimal.specs.Running.{files, IsOptimalityReport}

-- a report of the task's texts is one of the four texts
pub report_of_task : (domain problem plan cert : List ℕ) (e : Fault) → IsTaskReport domain problem e → IsOptimalityReport domain problem plan cert e
report_of_task domain problem plan cert OutOfMemory report = tt
report_of_task domain problem plan cert (CannotRead file) report = elim report [ ]
report_of_task domain problem plan cert (CannotWrite file) report = elim report [ ]
report_of_task domain problem plan cert (Task e word) report = report
report_of_task domain problem plan cert (Plan e) report = elim report [ ]
report_of_task domain problem plan cert (Sas e) report = elim report [ ]
report_of_task domain problem plan cert (Cert e) report = elim report [ ]
report_of_task domain problem plan cert GroundLimit report = elim report [ ]
report_of_task domain problem plan cert (TaskTooLarge table) report = elim report [ ]
report_of_task domain problem plan cert TotalTooLarge report = elim report [ ]

-- a text's refusal is no failure of the device
report_status : (domain problem plan cert : List ℕ) (e : Fault) → IsOptimalityReport domain problem plan cert e → fault_status e ≢ DeviceFailed
report_status domain problem plan cert OutOfMemory report = λ failed. cc
report_status domain problem plan cert (CannotRead file) report = elim report [ ]
report_status domain problem plan cert (CannotWrite file) report = elim report [ ]
report_status domain problem plan cert (Task e word) report = λ failed. cc
report_status domain problem plan cert (Plan e) report = λ failed. cc
report_status domain problem plan cert (Sas e) report = elim report [ ]
report_status domain problem plan cert (Cert e) report = λ failed. cc
report_status domain problem plan cert GroundLimit report = λ failed. cc
report_status domain problem plan cert (TaskTooLarge table) report = λ failed. cc
report_status domain problem plan cert TotalTooLarge report = elim report [ ]

-- a reply ends with `DeviceFailed` only after a failure that is counted
pub reply_failed : {Z : Type 0} (domain problem plan cert : List ℕ) (answer : Result (String Z × Status) Fault) (status : Status) (old new : ℕ)
    → IfOk answer (λ r. r.1 ≢ DeviceFailed) → IfErr answer (λ e. IsOptimalityReport domain problem plan cert e)
    → (status ≡ DeviceFailed → IfOk answer (λ r. r.1 ≢ DeviceFailed → old + 1 ≤ new)) → IfErr answer (λ e. status ≡ fault_status e)
    → status ≡ DeviceFailed → old + 1 ≤ new
reply_failed domain problem plan cert (Ok r) status old new judged refused counted fault_is failed = counted failed judged
reply_failed domain problem plan cert (Err e) status old new judged refused counted fault_is failed =
    absurd (report_status domain problem plan cert e refused (sym fault_is ∙ failed))

-- a refusal's fault is that of the texts, or want of memory, with which any texts may be refused
pub report_reported : (domain problem plan cert : List ℕ) (fault e : Fault) → (e ≡ fault) ⊎ (e ≡ OutOfMemory) → IsOptimalityReport domain problem plan cert fault → IsOptimalityReport domain problem plan cert e
report_reported domain problem plan cert fault e (inl same) refused = subst (IsOptimalityReport domain problem plan cert) (sym same) refused
report_reported domain problem plan cert fault e (inr memory) refused = subst (IsOptimalityReport domain problem plan cert) (sym memory) tt

-- allocation may fail for any texts
pub memory_reported : (domain problem plan cert : List ℕ) (e : Fault) → e ≡ OutOfMemory → IsOptimalityReport domain problem plan cert e
memory_reported domain problem plan cert e memory = subst (IsOptimalityReport domain problem plan cert) (sym memory) tt

-- the plan's text is stored as it was read only if a fault is explained, and is shown only then
pub shown_plan : (explains : Bool) (domain d problem p plan l stored cert c : List ℕ) (fault : Fault) (explanation : Option (List ℕ))
    → stored ≡ (if explains then l else []) → IsExplained explains (files domain d problem p plan stored cert c) fault explanation
    → IsExplained explains (files domain d problem p plan l cert c) fault explanation
shown_plan false domain d problem p plan l stored cert c fault explanation same explained = explained
shown_plan true domain d problem p plan l stored cert c fault explanation same explained =
    subst (λ (x : List ℕ). IsExplanation fault (files domain d problem p plan x cert c) explanation) same explained

pub ruleset reported = (report_reported, memory_reported, shown_plan)
