-- The files that a validation reads, and their texts' refusals.
use Rattle.std.proofs.Common.{◌≡◌, ◌≢◌, ℕ, List, ◌++◌, sym, ap, ◌∙◌}
use Rattle.std.specs.Prelude.{Option, Some}
use Rattle.optplan_device.specs.Events.{Event}
use Rattle.optplan_replies.specs.declared.fault.Fault.{Fault}
use Rattle.optplan_replies.specs.declared.fault.Fault.TheVariants.{OutOfMemory, CannotRead, CannotWrite, Task, Plan, Sas, Cert, GroundLimit, TaskTooLarge, TotalTooLarge}
use Rattle.optplan_replies.specs.declared.status.Status.TheVariants.{DeviceFailed}
use Rattle.optplan_replies.specs.Faults.{fault_status}
use Rattle.optplan_verdicts.specs.Answers.{IsRefusal}
use Rattle.optplan_verdicts.specs.Validation.{reads}

-- a text's refusal is no failure of the device
pub refusal_status : (domain problem plan : List ℕ) (e : Fault) → IsRefusal domain problem plan e → fault_status e ≢ DeviceFailed
refusal_status domain problem plan OutOfMemory refused = λ failed. cc
refusal_status domain problem plan (CannotRead file) refused = elim refused [ ]
refusal_status domain problem plan (CannotWrite file) refused = elim refused [ ]
refusal_status domain problem plan (Task e word) refused = λ failed. cc
refusal_status domain problem plan (Plan e) refused = λ failed. cc
refusal_status domain problem plan (Sas e) refused = elim refused [ ]
refusal_status domain problem plan (Cert e) refused = elim refused [ ]
refusal_status domain problem plan GroundLimit refused = elim refused [ ]
refusal_status domain problem plan (TaskTooLarge table) refused = elim refused [ ]
refusal_status domain problem plan TotalTooLarge refused = elim refused [ ]

-- three files were read
pub reads_same : (mid : Option (List Event)) (h : List Event) (domain d d' problem p p' plan l l' : List ℕ)
    → d' ≡ d → p' ≡ p → l' ≡ l → mid ≡ Some (h ++ reads domain d problem p plan l) → mid ≡ Some (h ++ reads domain d' problem p' plan l')
reads_same mid h domain d d' problem p p' plan l l' d_is p_is l_is mid_is =
    mid_is
    ∙ ap (λ (x : List ℕ). Some (h ++ reads domain x problem p plan l)) (sym d_is)
    ∙ ap (λ (x : List ℕ). Some (h ++ reads domain d' problem x plan l)) (sym p_is)
    ∙ ap (λ (x : List ℕ). Some (h ++ reads domain d' problem p' plan x)) (sym l_is)
