-- Refusals of a certificate that is to be printed as version 2.
use Rattle.std.proofs.Common.{◌≡◌, ◌≢◌, ◌⊎◌, ℕ, List, inl, inr, sym, subst}
use Rattle.optplan_replies.specs.declared.fault.Fault.{Fault}
use Rattle.optplan_replies.specs.declared.fault.Fault.TheVariants.{OutOfMemory, CannotRead, CannotWrite, Task, Plan, Sas, Cert, GroundLimit, TaskTooLarge, TotalTooLarge}
use Rattle.optplan_replies.specs.declared.status.Status.TheVariants.{DeviceFailed}
use Rattle.optplan_replies.specs.Faults.{fault_status}
use Rattle.optplan_command.specs.Migrating.{IsMigrationRefusal}

-- a text's refusal is no failure of the device
pub migration_refusal_status : (text : List ℕ) (e : Fault) → IsMigrationRefusal text e → fault_status e ≢ DeviceFailed
migration_refusal_status text OutOfMemory refused = λ failed. cc
migration_refusal_status text (CannotRead file) refused = elim refused [ ]
migration_refusal_status text (CannotWrite file) refused = elim refused [ ]
migration_refusal_status text (Task e word) refused = elim refused [ ]
migration_refusal_status text (Plan e) refused = elim refused [ ]
migration_refusal_status text (Sas e) refused = elim refused [ ]
migration_refusal_status text (Cert e) refused = λ failed. cc
migration_refusal_status text GroundLimit refused = elim refused [ ]
migration_refusal_status text (TaskTooLarge table) refused = elim refused [ ]
migration_refusal_status text TotalTooLarge refused = elim refused [ ]

-- a refusal's fault is that of the texts, or want of memory, with which any texts may be refused
pub migration_refusal_reported : (text : List ℕ) (fault e : Fault) → (e ≡ fault) ⊎ (e ≡ OutOfMemory) → IsMigrationRefusal text fault → IsMigrationRefusal text e
migration_refusal_reported text fault e (inl same) refused = subst (IsMigrationRefusal text) (sym same) refused
migration_refusal_reported text fault e (inr memory) refused = subst (IsMigrationRefusal text) (sym memory) tt

-- allocation may fail for any text
pub memory_refused : (text : List ℕ) (e : Fault) → e ≡ OutOfMemory → IsMigrationRefusal text e
memory_refused text e memory = subst (IsMigrationRefusal text) (sym memory) tt

pub ruleset reported = (migration_refusal_reported, memory_refused)
