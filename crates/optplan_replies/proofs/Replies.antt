-- How a command replies to the texts that it has read.
use Rattle.std.proofs.Common.{◌≡◌, ◌≢◌, ◌≤◌, ◌+◌, ℕ, List, [], ◌∷◌, ◌++◌, refl, sym, ap, subst, ◌∙◌, inl, inr}
use Rattle.std.specs.Prelude.{Option, Some, Result, Ok, Err, String, IfOk, IfErr, string_bytes}
use Rattle.std.specs.Option.{option_map}
use Rattle.optplan_device.specs.Events.{Event, HasPut, Adds}
use Rattle.optplan_replies.specs.declared.fault.Fault.{Fault}
use Rattle.optplan_replies.specs.declared.refusal.Refusal.{Refusal}
use Rattle.optplan_replies.specs.declared.status.Status.{Status}
use Rattle.optplan_replies.specs.declared.status.Status.TheVariants.{DeviceFailed, OutOfMemory}
use Rattle.optplan_replies.specs.Statuses.{IsOfVerdict}
use Rattle.optplan_replies.specs.Faults.{fault_status}
use Rattle.optplan_replies.specs.Runs.{IsAnswered, IsQuiet, Follows, task_reads}

-- what follows the reading of files, where no call of the device failed
pub replied : {Z : Type 0} (Answers : List ℕ → Status → Type 0) (Refuses : Fault → Type 0) (Explains : Fault → Option (List ℕ) → Type 0)
    (answer : Result (String Z × Status) Refusal) (mid new : Option (List Event)) (h : List Event) (status : Status)
    → mid ≡ Some h
    → IfOk answer (λ r. Answers (string_bytes r.0) r.1) → IfErr answer (λ e. Refuses e.fault) → IfErr answer (λ e. Explains e.fault (option_map string_bytes e.explanation))
    → IfOk answer (λ r. Adds mid new (HasPut (string_bytes r.0))) → IfOk answer (λ r. status ≡ r.1)
    → IfErr answer (λ e. (later : List Event) × (new ≡ Some (h ++ later)) × IsQuiet (option_map string_bytes e.explanation) later)
    → IfErr answer (λ e. status ≡ fault_status e.fault)
    → (later : List Event) × (new ≡ Some (h ++ later)) × Follows Answers Refuses Explains later status
replied Answers Refuses Explains (Ok r) mid new h status mid_is answered refused explained put status_is reported fault_is = (
  HasPut (string_bytes r.0) ∷ [],
  put ∙ ap (λ (o : Option (List Event)). option_map (λ es. es ++ HasPut (string_bytes r.0) ∷ []) o) mid_is,
  inl (string_bytes r.0, subst (λ (s : Status). Answers (string_bytes r.0) s) (sym status_is) answered, refl),
)
replied Answers Refuses Explains (Err e) mid new h status mid_is answered refused explained put status_is reported fault_is =
    (reported.0, reported.1, inr (e.fault, option_map string_bytes e.explanation, refused, explained, fault_is, reported.2))

-- a verdict is no failure of the device
of_verdict : (status : Status) → IsOfVerdict status → status ≢ DeviceFailed
of_verdict status (inl done) = λ failed. cc
of_verdict status (inr rejected) = λ failed. cc

-- a verdict is no want of memory
known_verdict : (status : Status) → IsOfVerdict status → status ≢ OutOfMemory
known_verdict status (inl done) = λ memory. cc
known_verdict status (inr rejected) = λ memory. cc

-- a reply to an answer ends with `DeviceFailed` only after a failure that is counted
pub reply_failed : {Z : Type 0} (Answers : List ℕ → Status → Type 0) (Refuses : Fault → Type 0) (Explains : Fault → Option (List ℕ) → Type 0)
    (answer : Result (String Z × Status) Refusal) (status : Status) (old new : ℕ)
    → IsAnswered {Z = Z} Answers Refuses Explains answer
    → (status ≡ DeviceFailed → IfOk answer (λ r. r.1 ≢ DeviceFailed → old + 1 ≤ new)) → IfErr answer (λ e. status ≡ fault_status e.fault)
    → status ≡ DeviceFailed → old + 1 ≤ new
reply_failed Answers Refuses Explains (Ok r) status old new answered counted fault_is failed = counted failed answered.0.1
reply_failed Answers Refuses Explains (Err e) status old new answered counted fault_is failed = absurd (answered.1.1 (sym fault_is ∙ failed))

-- an answer is no want of memory
pub known_answer : {Z : Type 0} (Answers : List ℕ → Status → Type 0) (Refuses : Fault → Type 0) (Explains : Fault → Option (List ℕ) → Type 0)
    (answer : Result (String Z × Status) Refusal) → IsAnswered {Z = Z} Answers Refuses Explains answer → IfOk answer (λ r. r.1 ≢ OutOfMemory)
known_answer Answers Refuses Explains (Ok r) answered = answered.0.2
known_answer Answers Refuses Explains (Err e) answered = tt

-- what follows the reading of files to which a command has an answer, where no call of the device failed
pub answered_texts : {Z : Type 0} (Answers : List ℕ → Status → Type 0) (Refuses : Fault → Type 0) (Explains : Fault → Option (List ℕ) → Type 0)
    (answer : Result (String Z × Status) Refusal) (mid new : Option (List Event)) (h : List Event) (status : Status)
    → mid ≡ Some h → IsAnswered {Z = Z} Answers Refuses Explains answer
    → IfOk answer (λ r. Adds mid new (HasPut (string_bytes r.0))) → IfOk answer (λ r. status ≡ r.1)
    → IfErr answer (λ e. (later : List Event) × (new ≡ Some (h ++ later)) × IsQuiet (option_map string_bytes e.explanation) later)
    → IfErr answer (λ e. status ≡ fault_status e.fault)
    → (later : List Event) × (new ≡ Some (h ++ later)) × Follows Answers Refuses Explains later status
answered_texts {Z = Z} Answers Refuses Explains (Ok r) mid new h status mid_is answered =
    replied {Z = Z} Answers Refuses Explains (Ok r) mid new h status mid_is answered.0.0 tt tt
answered_texts {Z = Z} Answers Refuses Explains (Err e) mid new h status mid_is answered =
    replied {Z = Z} Answers Refuses Explains (Err e) mid new h status mid_is tt answered.1.0 answered.1.2

-- a verdict on texts, or a refusal that is no failure of the device, is an answer
pub verdict_answered : {Z : Type 0} (Answers : List ℕ → Status → Type 0) (Refuses : Fault → Type 0) (Explains : Fault → Option (List ℕ) → Type 0)
    (answer : Result (String Z × Status) Refusal)
    → ((e : Fault) → Refuses e → fault_status e ≢ DeviceFailed)
    → IfOk answer (λ r. Answers (string_bytes r.0) r.1) → IfOk answer (λ r. IsOfVerdict r.1) → IfErr answer (λ e. Refuses e.fault)
    → IfErr answer (λ e. Explains e.fault (option_map string_bytes e.explanation))
    → IsAnswered {Z = Z} Answers Refuses Explains answer
verdict_answered Answers Refuses Explains (Ok r) of_texts answered verdict refused explained =
    ((answered, of_verdict r.1 verdict, known_verdict r.1 verdict), tt)
verdict_answered Answers Refuses Explains (Err e) of_texts answered verdict refused explained = (tt, (refused, of_texts e.fault refused, explained))

-- two files were read
pub task_reads_same : (mid : Option (List Event)) (h : List Event) (domain d d' problem p p' : List ℕ) → d' ≡ d → p' ≡ p
    → mid ≡ Some (h ++ task_reads domain d problem p) → mid ≡ Some (h ++ task_reads domain d' problem p')
task_reads_same mid h domain d d' problem p p' d_is p_is mid_is =
    mid_is
    ∙ ap (λ (x : List ℕ). Some (h ++ task_reads domain x problem p)) (sym d_is)
    ∙ ap (λ (x : List ℕ). Some (h ++ task_reads domain d' problem x)) (sym p_is)
