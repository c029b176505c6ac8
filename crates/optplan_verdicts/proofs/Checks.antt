-- Refusals of a certificate's check for a planning task.
use Rattle.std.proofs.Common.{◌≡◌, ◌≢◌, ◌⊎◌, ℕ, List, inl, inr, sym, subst}
use Rattle.optplan_replies.specs.declared.fault.Fault.{Fault}
use Rattle.optplan_replies.specs.declared.fault.Fault.TheVariants.{OutOfMemory, CannotRead, CannotWrite, Task, Plan, Sas, Cert, GroundLimit, TaskTooLarge, TotalTooLarge}
use Rattle.optplan_replies.specs.declared.status.Status.TheVariants.{DeviceFailed}
use Rattle.optplan_replies.specs.Faults.{fault_status}
use Rattle.optplan_verdicts.specs.Checking.{IsCheckRefusal}

-- a text's refusal is no failure of the device
pub check_refusal_status : (domain problem cert : List ℕ) (e : Fault) → IsCheckRefusal domain problem cert e → fault_status e ≢ DeviceFailed
check_refusal_status domain problem cert OutOfMemory refused = λ failed. cc
check_refusal_status domain problem cert (CannotRead file) refused = elim refused [ ]
check_refusal_status domain problem cert (CannotWrite file) refused = elim refused [ ]
check_refusal_status domain problem cert (Task e word) refused = λ failed. cc
check_refusal_status domain problem cert (Plan e) refused = elim refused [ ]
check_refusal_status domain problem cert (Sas e) refused = elim refused [ ]
check_refusal_status domain problem cert (Cert e) refused = λ failed. cc
check_refusal_status domain problem cert GroundLimit refused = λ failed. cc
check_refusal_status domain problem cert (TaskTooLarge table) refused = λ failed. cc
check_refusal_status domain problem cert TotalTooLarge refused = elim refused [ ]

-- a refusal's fault is that of the texts, or want of memory, with which any texts may be refused
pub check_refusal_reported : (domain problem cert : List ℕ) (fault e : Fault) → (e ≡ fault) ⊎ (e ≡ OutOfMemory) → IsCheckRefusal domain problem cert fault → IsCheckRefusal domain problem cert e
check_refusal_reported domain problem cert fault e (inl same) refused = subst (IsCheckRefusal domain problem cert) (sym same) refused
check_refusal_reported domain problem cert fault e (inr memory) refused = subst (IsCheckRefusal domain problem cert) (sym memory) tt
