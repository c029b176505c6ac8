-- The effects of every command on its device, and its exit status.
use Rattle.std.specs.Prelude.{◌≡◌, ◌≢◌, ℕ, ◌+◌, ◌⊎◌, ◌==◌, not, Bool, true, List, [], ◌∷◌, ◌++◌, Option, Some, None, Result, String, IfOk, IfErr, option_map, string_bytes}
use Rattle.optplan_device.specs.Events.{Event, HasRead, HasWritten, HasPut, HasReported}
use Rattle.optplan_replies.specs.declared.fault.Fault.{Fault}
use Rattle.optplan_replies.specs.declared.fault.Fault.TheVariants.{OutOfMemory, CannotRead, CannotWrite, Task, Plan, Sas, Cert, GroundLimit, TaskTooLarge, TotalTooLarge}
use Rattle.optplan_replies.specs.declared.refusal.Refusal.{Refusal}
use Rattle.optplan_replies.specs.declared.status.Status.{Status}
use Rattle.optplan_replies.specs.declared.status.Status.TheVariants as exit
use Rattle.optplan_replies.specs.Faults.{fault_status}

-- whether an argument is not an option: it does not start with a hyphen
abbrev pub is_operand : List ℕ → Bool
is_operand [] = true
is_operand (b ∷ bs) = not (b == 45)

-- the events after the line of a fault: none, or one by which this explanation is written to standard error, if there
-- is an explanation
abbrev pub HasExplained : Option (List ℕ) → List Event → Type 0
HasExplained explanation [] = Unit {0}
HasExplained None (e ∷ events) = ⊥
HasExplained (Some text) (e ∷ events) = (e ∷ events) ≡ HasReported text ∷ []

-- nothing was written to standard output, and to standard error at most one report, or, if there is an explanation, at
-- most two, the second of which is the explanation
abbrev pub IsQuiet : Option (List ℕ) → List Event → Type 0
IsQuiet explanation [] = Unit {0}
IsQuiet explanation (HasReported line ∷ events) = HasExplained explanation events
IsQuiet explanation (HasRead name bytes ∷ events) = ⊥
IsQuiet explanation (HasWritten name bytes ∷ events) = ⊥
IsQuiet explanation (HasPut bytes ∷ events) = ⊥

-- none of these events is one of standard output
abbrev pub PutsNothing : List Event → Type 0
PutsNothing [] = Unit {0}
PutsNothing (HasRead name bytes ∷ events) = PutsNothing events
PutsNothing (HasWritten name bytes ∷ events) = PutsNothing events
PutsNothing (HasPut bytes ∷ events) = ⊥
PutsNothing (HasReported bytes ∷ events) = PutsNothing events

-- nothing was written to standard output between these two histories of a device that specifies them
abbrev pub IsUnput : Option (List Event) → Option (List Event) → Type 0
IsUnput old new = (h : List Event) → old ≡ Some h → (later : List Event) × (new ≡ Some (h ++ later)) × PutsNothing later

-- the two files of a planning task were read
abbrev pub task_reads : List ℕ → List ℕ → List ℕ → List ℕ → List Event
task_reads domain d problem p = HasRead domain d ∷ HasRead problem p ∷ []

-- the events after the reading of a command's files, and the exit status: the line that answers the texts is written to
-- standard output, or a text is refused, with an explanation or without one
abbrev pub Follows : (List ℕ → Status → Type 0) → (Fault → Type 0) → (Fault → Option (List ℕ) → Type 0) → List Event → Status → Type 0
Follows IsAnswer IsRefusal IsExplained events status =
    ((line : List ℕ) × IsAnswer line status × (events ≡ HasPut line ∷ []))
    ⊎ ((e : Fault) × (explanation : Option (List ℕ)) × IsRefusal e × IsExplained e explanation × (status ≡ fault_status e) × IsQuiet explanation events)

-- the result is an answer with a line and a status that is neither a failure of the device nor want of memory, or a
-- fault of the texts with its explanation
abbrev pub IsAnswered : {Z : Type 0} → (List ℕ → Status → Type 0) → (Fault → Type 0) → (Fault → Option (List ℕ) → Type 0) → Result (String Z × Status) Refusal → Type 0
IsAnswered IsAnswer IsRefusal IsExplained r =
    IfOk r (λ p. IsAnswer (string_bytes p.0) p.1 × (p.1 ≢ exit.DeviceFailed) × (p.1 ≢ exit.OutOfMemory))
    × IfErr r (λ e. IsRefusal e.fault × (fault_status e.fault ≢ exit.DeviceFailed) × IsExplained e.fault (option_map string_bytes e.explanation))

-- every text is accepted
abbrev pub AcceptsAll : {T : Type 0} → (T → Type 0) → Type 0
AcceptsAll {T = T} accepts = (t : T) → accepts t

-- whatever the texts, the result is an answer to them
abbrev pub AnswersAll : {T Z : Type 0} → (T → List ℕ → Status → Type 0) → (T → Fault → Type 0) → (T → Fault → Option (List ℕ) → Type 0)
    → (T → Result (String Z × Status) Refusal → Type 0) → Type 0
AnswersAll {T = T} {Z = Z} IsAnswer IsRefusal IsExplained gives =
    (t : T) (r : Result (String Z × Status) Refusal) → gives t r → IsAnswered (IsAnswer t) (IsRefusal t) (IsExplained t) r

-- a command read these texts of its files, in this order; then it printed the line of its verdict on them, or refused
-- them
pub record Judges {T : Type 0} (reads : T → List Event) (IsAnswer : T → List ℕ → Status → Type 0) (IsRefusal : T → Fault → Type 0)
    (IsExplained : T → Fault → Option (List ℕ) → Type 0) (old new : List Event) (status : Status) : Type 0 where
  pub texts : T
  pub later : List Event
  pub events : new ≡ old ++ (reads texts ++ later)
  pub follows : Follows (IsAnswer texts) (IsRefusal texts) (IsExplained texts) later status

-- the fault of a device that changes the count of failures in this way: allocation failed, or the failure is counted
abbrev pub IsDeviceFault : Fault → ℕ → ℕ → Type 0
IsDeviceFault OutOfMemory old new = new ≡ old
IsDeviceFault (CannotRead file) old new = new ≡ old + 1
IsDeviceFault (CannotWrite file) old new = new ≡ old + 1
IsDeviceFault (Task e word) old new = ⊥
IsDeviceFault (Plan e) old new = ⊥
IsDeviceFault (Sas e) old new = ⊥
IsDeviceFault (Cert e) old new = ⊥
IsDeviceFault GroundLimit old new = ⊥
IsDeviceFault (TaskTooLarge table) old new = ⊥
IsDeviceFault TotalTooLarge old new = ⊥
