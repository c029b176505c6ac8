-- The files and the output of an answer, and the exit status.
use Rattle.std.specs.Prelude.{◌≡◌, ℕ, ◌+◌, ◌≤◌, ◌⊎◌, List, [], ◌∷◌, ◌++◌, Option, Some, None, codes, decimal, length, nat_lt, if◌then◌else◌, string_bytes}
use Rattle.std.specs.Option.{option_map}
use Rattle.cert_value.specs.Certificates.{CertificateValue}
use Rattle.cert_text.specs.Spelling.{spelling}
use Rattle.optplan_device.specs.Events.{Event, HasWritten, HasPut, HasReported}
use Rattle.optplan_solver.specs.declared.forms.WrittenPlan.{WrittenPlan}
use Rattle.optplan_search.specs.declared.answer.SoFar.{SoFar}
use Rattle.optplan_search.specs.declared.answer.Answer.{Answer}
use Rattle.optplan_search.specs.declared.answer.Answer.TheVariants.{Solved, Unsolvable, Limit}
use Rattle.optplan_search.specs.declared.fault.SearchFault.{SearchFault}
use Rattle.optplan_search.specs.declared.fault.SearchFault.TheVariants as search
use Rattle.optplan_replies.specs.declared.fault.Fault.{Fault}
use Rattle.optplan_replies.specs.declared.fault.Fault.TheVariants.{OutOfMemory, TotalTooLarge}
use Rattle.optplan_replies.specs.declared.status.Status.{Status}
use Rattle.optplan_replies.specs.declared.status.Status.TheVariants as exit
use Rattle.optplan_replies.specs.Faults.{fault_status}
use Rattle.optplan_replies.specs.Runs.{IsQuiet}
use Rattle.optplan_solve.specs.declared.settings.Settings.{Settings}

-- the names of the files that are written besides standard output
pub record OutputFiles : Type 0 where
  pub plan : Option (List ℕ)
  pub cert : Option (List ℕ)

-- the names of the files that the settings request
abbrev pub files_of : Settings → OutputFiles
files_of settings = record { plan = option_map (λ n. n.now) settings.plan; cert = option_map (λ n. n.now) settings.cert }

-- the writing of a file, if it has a name
abbrev pub writes : Option (List ℕ) → List ℕ → List Event
writes None bytes = []
writes (Some name) bytes = HasWritten name bytes ∷ []

-- the writing of a text, if there is one and its file has a name
abbrev pub text_writes : Option (List ℕ) → Option (List ℕ) → List Event
text_writes name None = []
text_writes name (Some text) = writes name text

-- the certificate of an answer, if it has one
abbrev pub certificate_of : {P : Type 0} → Answer (WrittenPlan P) → Option CertificateValue
certificate_of (Solved s) = s.certificate
certificate_of (Unsolvable c) = c
certificate_of (Limit s) = s.certificate

-- the text of an answer's plan, if there is a plan
abbrev pub plan_text_of : {P : Type 0} → Answer (WrittenPlan P) → Option (List ℕ)
plan_text_of (Solved s) = Some (string_bytes s.found.plan_text)
plan_text_of (Unsolvable c) = None
plan_text_of (Limit s) = option_map (λ p. string_bytes p.plan_text) s.best

-- the writing of an answer's files: the certificate's first, if there is one, then the plan's, if there is a plan
abbrev pub answer_writes : {P : Type 0} → OutputFiles → Answer (WrittenPlan P) → List Event
answer_writes files answer = text_writes files.cert (option_map spelling (certificate_of answer)) ++ text_writes files.plan (plan_text_of answer)

-- the text of the best plan so far, empty if there is none
abbrev pub best_text : {P : Type 0} → Option (WrittenPlan P) → List ℕ
best_text None = []
best_text (Some best) = string_bytes best.plan_text

-- the output at a limit: a line with the bound, followed by the best plan so far
abbrev pub limit_text : {P : Type 0} → SoFar (WrittenPlan P) → List ℕ
limit_text known = codes "limit " ++ decimal known.bound ++ codes "\n" ++ best_text known.best

-- the output: the plan, or a line, which at a limit is followed by the best plan so far
abbrev pub answer_text : {P : Type 0} → Answer (WrittenPlan P) → List ℕ
answer_text (Solved s) = string_bytes s.found.plan_text
answer_text (Unsolvable cert) = codes "unsolvable\n"
answer_text (Limit known) = limit_text known

-- the events by which the files that are requested are created or emptied: the certificate's first
abbrev pub creations : OutputFiles → List Event
creations files = writes files.cert [] ++ writes files.plan []

-- the greatest number of bytes of a certificate's text that the checker reads
abbrev pub max_certificate : ℕ
max_certificate = 1073741824

-- the line that reports a certificate's text of `n` bytes as too long
abbrev pub length_line : ℕ → List ℕ
length_line n = codes "optplan: the certificate has " ++ decimal n ++ codes " bytes, and check reads at most 1073741824\n"

-- a certificate that is too long for the checker is reported
abbrev pub length_report : Option (List ℕ) → List Event
length_report None = []
length_report (Some text) = if nat_lt max_certificate (length text) then HasReported (length_line (length text)) ∷ [] else []

-- the report, the files that are written, and then the output
abbrev pub outputs : {P : Type 0} → OutputFiles → Answer (WrittenPlan P) → List Event
outputs files answer = length_report (option_map spelling (certificate_of answer)) ++ (answer_writes files answer ++ HasPut (answer_text answer) ∷ [])

-- the exit status of an answer
abbrev pub answer_status : {P : Type 0} → Answer (WrittenPlan P) → Status
answer_status (Solved s) = exit.Done
answer_status (Unsolvable cert) = exit.Unsolvable
answer_status (Limit known) = exit.Limited

-- the fault of a search, as the program's
abbrev pub fault_of_search : SearchFault → Fault
fault_of_search search.OutOfMemory = OutOfMemory
fault_of_search search.TotalTooLarge = TotalTooLarge

-- a failure while outputs are written: allocation failed, or at least one failure of the device is counted
abbrev pub IsOutputFault : ℕ → ℕ → Fault → Type 0
IsOutputFault old new e = (fault_status e ≡ exit.OutOfMemory) ⊎ ((fault_status e ≡ exit.DeviceFailed) × (old + 1 ≤ new))

-- the events after the files are created, and the exit status: an answer is written and printed, or the search is
-- refused, which is never explained
abbrev pub Replies : {P : Type 0} → (Answer (WrittenPlan P) → Type 0) → (Fault → Type 0) → OutputFiles → List Event → Status → Type 0
Replies {P = P} IsAnswer IsRefusal files later status =
    ((answer : Answer (WrittenPlan P)) × IsAnswer answer × (later ≡ outputs files answer) × (status ≡ answer_status answer))
    ⊎ ((e : Fault) × IsRefusal e × (status ≡ fault_status e) × IsQuiet None later)

-- the events after the reading of the files of a task, and the exit status: a text is refused, with an explanation or
-- without one, and no file is changed; or the requested files are created or emptied, and then it is replied
abbrev pub Concludes : {P : Type 0} → (Fault → Type 0) → (Fault → Option (List ℕ) → Type 0) → (Answer (WrittenPlan P) → Type 0) → (Fault → Type 0)
    → OutputFiles → List Event → Status → Type 0
Concludes IsTextRefusal IsExplained IsAnswer IsRefusal files later status =
    ((e : Fault) × (explanation : Option (List ℕ)) × IsTextRefusal e × IsExplained e explanation × (status ≡ fault_status e) × IsQuiet explanation later)
    ⊎ ((rest : List Event) × (later ≡ creations files ++ rest) × Replies IsAnswer IsRefusal files rest status)
