-- A refusal of a planning task's texts is one of a validation.
use Rattle.std.proofs.Common.{◌≡◌, ◌⊎◌, ℕ, List, inl, inr, sym, subst}
use Rattle.optplan_replies.specs.declared.fault.Fault.{Fault}
use Rattle.optplan_replies.specs.declared.fault.Fault.TheVariants.{OutOfMemory, CannotRead, CannotWrite, Task, Plan, Sas, Cert, GroundLimit, TaskTooLarge, TotalTooLarge}
use Rattle.optplan_replies.specs.Reports.{IsTaskReport}
use Rattle.optplan_verdicts.specs.Answers.{IsRefusal}

pub refusal_of : (domain problem plan : List ℕ) (e : Fault) → IsTaskReport domain problem e → IsRefusal domain problem plan e
refusal_of domain problem plan OutOfMemory report = tt
refusal_of domain problem plan (CannotRead file) report = elim report [ ]
refusal_of domain problem plan (CannotWrite file) report = elim report [ ]
refusal_of domain problem plan (Task e word) report = report
refusal_of domain problem plan (Plan e) report = elim report [ ]
refusal_of domain problem plan (Sas e) report = elim report [ ]
refusal_of domain problem plan (Cert e) report = elim report [ ]
refusal_of domain problem plan GroundLimit report = elim report [ ]
refusal_of domain problem plan (TaskTooLarge table) report = elim report [ ]
refusal_of domain problem plan TotalTooLarge report = elim report [ ]

-- a refusal's fault is that of the texts, or want of memory, with which any texts may be refused
pub refusal_reported : (domain problem plan : List ℕ) (fault e : Fault) → (e ≡ fault) ⊎ (e ≡ OutOfMemory) → IsRefusal domain problem plan fault → IsRefusal domain problem plan e
refusal_reported domain problem plan fault e (inl same) refused = subst (IsRefusal domain problem plan) (sym same) refused
refusal_reported domain problem plan fault e (inr memory) refused = subst (IsRefusal domain problem plan) (sym memory) tt
