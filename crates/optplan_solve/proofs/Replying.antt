-- How a solve command replies to the texts that it has read.
use Rattle.std.proofs.Common.{◌≡◌, ◌≢◌, ◌≤◌, ◌+◌, ℕ, List, [], ◌∷◌, ◌++◌, refl, sym, ap, ◌∙◌, inl, inr, append_assoc}
use Rattle.std.specs.Prelude.{Option, Some, None, Result, Ok, Err, IfOk, IfErr, OnErr}
use Rattle.std.specs.Option.{option_map}
use Rattle.cert_text.specs.Spelling.{spelling}
use Rattle.optplan_device.specs.Events.{Event, HasPut, Adds}
use Rattle.optplan_replies.specs.declared.fault.Fault.{Fault}
use Rattle.optplan_replies.specs.declared.status.Status.{Status}
use Rattle.optplan_replies.specs.declared.status.Status.TheVariants.{DeviceFailed}
use Rattle.optplan_replies.specs.Faults.{fault_status}
use Rattle.optplan_replies.specs.Runs.{IsQuiet}
use Rattle.optplan_search.specs.declared.answer.Answer.{Answer}
use Rattle.optplan_solver.specs.declared.forms.WrittenPlan.{WrittenPlan}
use Rattle.optplan_solve.specs.Outputs.{OutputFiles, text_writes, certificate_of, plan_text_of, answer_text, length_report, outputs, answer_status, Replies}

-- an event after those of a history
pub added : (old new : Option (List Event)) (h : List Event) (e : Event) → old ≡ Some h → Adds old new e → new ≡ Some (h ++ e ∷ [])
added old new h e old_is adds = adds ∙ ap (λ (o : Option (List Event)). option_map (λ es. es ++ e ∷ []) o) old_is

-- the events of a history, then some, then others
pub regrouped : (new : Option (List Event)) (h a b : List Event) → new ≡ Some ((h ++ a) ++ b) → new ≡ Some (h ++ (a ++ b))
regrouped new h a b new_is = new_is ∙ ap (λ (x : List Event). Some x) (append_assoc h a b)

-- what follows the reading of files, where no call of the device failed
pub replied : {P : Type 0} (Answers : Answer (WrittenPlan P) → Type 0) (Refuses : Fault → Type 0) (answer : Result (Answer (WrittenPlan P)) Fault) (files : OutputFiles)
    (new : Option (List Event)) (h : List Event) (status : Status)
    → IfOk answer Answers → IfErr answer Refuses
    → IfOk answer (λ a. new ≡ Some (h ++ outputs files a)) → IfOk answer (λ a. status ≡ answer_status a)
    → IfErr answer (λ e. (later : List Event) × (new ≡ Some (h ++ later)) × IsQuiet None later) → IfErr answer (λ e. status ≡ fault_status e)
    → (later : List Event) × (new ≡ Some (h ++ later)) × Replies Answers Refuses files later status
replied Answers Refuses (Ok a) files new h status answered refused put status_is reported fault_is =
    (outputs files a, put, inl (a, answered, refl, status_is))
replied Answers Refuses (Err e) files new h status answered refused put status_is reported fault_is =
    (reported.0, reported.1, inr (e, refused, fault_is, reported.2))

-- a reply ends with `DeviceFailed` only after a failure that is counted, where no text is refused with it
pub reply_failed : {V : Type 0} (Refuses : Fault → Type 0) (answer : Result V Fault) (status : Status) (old new : ℕ)
    → ((e : Fault) → Refuses e → fault_status e ≢ DeviceFailed) → IfErr answer Refuses
    → (status ≡ DeviceFailed → IfOk answer (λ t. old + 1 ≤ new)) → IfErr answer (λ e. status ≡ fault_status e) → status ≡ DeviceFailed → old + 1 ≤ new
reply_failed Refuses (Ok t) status old new other refused counted fault_is failed = counted failed
reply_failed Refuses (Err e) status old new other refused counted fault_is failed = absurd (other e refused (sym fault_is ∙ failed))

-- events after those of two calls
pub added_last : (mid new : Option (List Event)) (h a b : List Event) (e : Event) → mid ≡ Some ((h ++ a) ++ b) → Adds mid new e
    → new ≡ Some (h ++ ((a ++ b) ++ e ∷ []))
added_last mid new h a b e mid_is adds =
    added mid new ((h ++ a) ++ b) e mid_is adds
    ∙ ap (λ (x : List Event). Some (x ++ e ∷ [])) (append_assoc h a b)
    ∙ ap (λ (x : List Event). Some x) (append_assoc h (a ++ b) (e ∷ []))

-- the outputs of an answer, from the texts of its certificate and of its plan and from what is printed
pub outputs_are : {P : Type 0} (files : OutputFiles) (answer : Answer (WrittenPlan P)) (new : Option (List Event)) (h : List Event) (cert plan : Option (List ℕ)) (text : List ℕ)
    → cert ≡ option_map spelling (certificate_of answer) → plan ≡ plan_text_of answer → text ≡ answer_text answer
    → new ≡ Some ((h ++ length_report cert) ++ ((text_writes files.cert cert ++ text_writes files.plan plan) ++ HasPut text ∷ []))
    → new ≡ Some (h ++ outputs files answer)
outputs_are files answer new h cert plan text cert_is plan_is text_is new_is =
    let after : Option (List ℕ) → Option (List ℕ) → List ℕ → List Event = λ c p t. length_report c ++ ((text_writes files.cert c ++ text_writes files.plan p) ++ HasPut t ∷ []) in
    regrouped new h (length_report cert) ((text_writes files.cert cert ++ text_writes files.plan plan) ++ HasPut text ∷ []) new_is
    ∙ ap (λ (c : Option (List ℕ)). Some (h ++ after c plan text)) cert_is
    ∙ ap (λ (p : Option (List ℕ)). Some (h ++ after (option_map spelling (certificate_of answer)) p text)) plan_is
    ∙ ap (λ (t : List ℕ). Some (h ++ after (option_map spelling (certificate_of answer)) (plan_text_of answer) t)) text_is

-- a fact, for a fault that satisfies another
pub at_fault : {T : Type 0} (r : Result T Fault) (Q : Fault → Type 0) (P : Type 0) → P → IfErr r (λ e. Q e → P)
at_fault (Ok v) Q P p = tt
at_fault (Err e) Q P p = λ is. p

-- a fact that follows from what a failed call leaves
pub after_fault : {T : Type 0} (r : Result T Fault) (Q : Fault → Type 0) (K P : Type 0) → OnErr r K → (K → P) → IfErr r (λ e. Q e → P)
after_fault (Ok v) Q K P kept p = tt
after_fault (Err e) Q K P kept p = λ is. p kept
