-- The files that a translation reads, and how it replies.
use Rattle.std.proofs.Common.{◌≡◌, ◌≢◌, ◌≤◌, ◌+◌, ℕ, ◌⊎◌, List, [], ◌∷◌, ◌++◌, refl, sym, ap, subst, ◌∙◌, inl, inr}
use Rattle.std.specs.Prelude.{Option, Some, Result, Ok, Err, Vec, IfOk, IfErr, string_bytes}
use Rattle.std.specs.Option.{option_map}
use Rattle.optplan_device.specs.Events.{Event, HasPut, Adds}
use Rattle.optplan_replies.specs.declared.fault.Fault.{Fault}
use Rattle.optplan_replies.specs.declared.fault.Fault.TheVariants.{OutOfMemory, CannotRead, CannotWrite, Task, Plan, Sas, Cert, GroundLimit, TaskTooLarge, TotalTooLarge}
use Rattle.optplan_replies.specs.declared.refusal.Refusal.{Refusal}
use Rattle.optplan_replies.specs.declared.status.Status.{Status}
use Rattle.optplan_replies.specs.declared.status.Status.TheVariants.{Done, DeviceFailed}
use Rattle.optplan_replies.specs.Faults.{fault_status}
use Rattle.optplan_replies.specs.Runs.{IsQuiet, Follows}
use Rattle.optplan_command.specs.Translating.{IsTranslationRefusal}

-- a text's refusal is no failure of the device
pub translation_refusal_status : (domain problem : List ℕ) (e : Fault) → IsTranslationRefusal domain problem e → fault_status e ≢ DeviceFailed
translation_refusal_status domain problem OutOfMemory refused = λ failed. cc
translation_refusal_status domain problem (CannotRead file) refused = elim refused [ ]
translation_refusal_status domain problem (CannotWrite file) refused = elim refused [ ]
translation_refusal_status domain problem (Task e word) refused = λ failed. cc
translation_refusal_status domain problem (Plan e) refused = elim refused [ ]
translation_refusal_status domain problem (Sas e) refused = elim refused [ ]
translation_refusal_status domain problem (Cert e) refused = elim refused [ ]
translation_refusal_status domain problem GroundLimit refused = λ failed. cc
translation_refusal_status domain problem (TaskTooLarge table) refused = λ failed. cc
translation_refusal_status domain problem TotalTooLarge refused = elim refused [ ]

-- what follows the reading of files, where no call of the device failed
pub text_replied : {Z : Type 0} (Texts : List ℕ → Type 0) (Refuses : Fault → Type 0) (Explains : Fault → Option (List ℕ) → Type 0)
    (answer : Result (Vec ℕ Z) Refusal) (mid new : Option (List Event)) (h : List Event) (status : Status)
    → mid ≡ Some h → IfOk answer (λ t. Texts t.items) → IfErr answer (λ e. Refuses e.fault)
    → IfErr answer (λ e. Explains e.fault (option_map string_bytes e.explanation))
    → IfOk answer (λ t. Adds mid new (HasPut t.items)) → IfOk answer (λ t. status ≡ Done)
    → IfErr answer (λ e. (later : List Event) × (new ≡ Some (h ++ later)) × IsQuiet (option_map string_bytes e.explanation) later)
    → IfErr answer (λ e. status ≡ fault_status e.fault)
    → (later : List Event) × (new ≡ Some (h ++ later)) × Follows (λ text s. Texts text × (s ≡ Done)) Refuses Explains later status
text_replied Texts Refuses Explains (Ok t) mid new h status mid_is answered refused explained put status_is reported fault_is = (
  HasPut t.items ∷ [],
  put ∙ ap (λ (o : Option (List Event)). option_map (λ es. es ++ HasPut t.items ∷ []) o) mid_is,
  inl (t.items, (answered, status_is), refl),
)
text_replied Texts Refuses Explains (Err e) mid new h status mid_is answered refused explained put status_is reported fault_is =
    (reported.0, reported.1, inr (e.fault, option_map string_bytes e.explanation, refused, explained, fault_is, reported.2))

-- a reply ends with `DeviceFailed` only after a failure that is counted, where no text is refused with it
pub text_reply_failed : {V : Type 0} (Refuses : Fault → Type 0) (answer : Result V Refusal) (status : Status) (old new : ℕ)
    → ((e : Fault) → Refuses e → fault_status e ≢ DeviceFailed) → IfErr answer (λ e. Refuses e.fault)
    → (status ≡ DeviceFailed → IfOk answer (λ t. old + 1 ≤ new)) → IfErr answer (λ e. status ≡ fault_status e.fault) → status ≡ DeviceFailed → old + 1 ≤ new
text_reply_failed Refuses (Ok t) status old new other refused counted fault_is failed = counted failed
text_reply_failed Refuses (Err e) status old new other refused counted fault_is failed = absurd (other e.fault refused (sym fault_is ∙ failed))

-- a refusal's fault is that of the texts, or want of memory, with which any texts may be refused
pub translation_refusal_reported : (domain problem : List ℕ) (fault e : Fault) → (e ≡ fault) ⊎ (e ≡ OutOfMemory) → IsTranslationRefusal domain problem fault → IsTranslationRefusal domain problem e
translation_refusal_reported domain problem fault e (inl same) refused = subst (IsTranslationRefusal domain problem) (sym same) refused
translation_refusal_reported domain problem fault e (inr memory) refused = subst (IsTranslationRefusal domain problem) (sym memory) tt
