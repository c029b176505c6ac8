-- What is written to standard error for a fault: its line, and after it an explanation.
use Rattle.std.proofs.Common.{◌≡◌, ℕ, List, [], ◌∷◌, ◌++◌, refl, sym, ap, ◌∙◌, append_assoc}
use Rattle.std.specs.Prelude.{Option, Some, None}
use Rattle.std.specs.Option.{option_map}
use Rattle.std.proofs.lemmas.List.{append-nil}
use Rattle.optplan_device.specs.Events.{Event, HasRead, HasWritten, HasPut, HasReported, Adds}
use Rattle.optplan_replies.specs.Runs.{IsQuiet}

-- one more event
added : (old new : Option (List Event)) (h : List Event) (e : Event) → old ≡ Some h → Adds old new e → new ≡ Some (h ++ e ∷ [])
added old new h e old_is adds = adds ∙ ap (λ (o : Option (List Event)). option_map (λ es. es ++ e ∷ []) o) old_is

-- the line was not written, and so nothing was
pub quiet_none : (explanation : Option (List ℕ)) (old new : Option (List Event)) (h : List Event) → new ≡ old → old ≡ Some h
    → (later : List Event) × (new ≡ Some (h ++ later)) × IsQuiet explanation later
quiet_none explanation old new h same is = ([], same ∙ is ∙ ap (λ (x : List Event). Some x) (sym (append-nil h)), tt)

-- the line alone was written
pub quiet_line : (explanation : Option (List ℕ)) (old new : Option (List Event)) (h : List Event) (line : List ℕ) → Adds old new (HasReported line) → old ≡ Some h
    → (later : List Event) × (new ≡ Some (h ++ later)) × IsQuiet explanation later
quiet_line explanation old new h line adds is = (HasReported line ∷ [], added old new h (HasReported line) is adds, tt)

-- the line was written, and not the explanation
pub quiet_line_kept : (explanation : Option (List ℕ)) (old mid new : Option (List Event)) (h : List Event) (line : List ℕ)
    → Adds old mid (HasReported line) → new ≡ mid → old ≡ Some h
    → (later : List Event) × (new ≡ Some (h ++ later)) × IsQuiet explanation later
quiet_line_kept explanation old mid new h line adds same is = (HasReported line ∷ [], same ∙ added old mid h (HasReported line) is adds, tt)

-- the line and the explanation were written
pub quiet_both : (text : List ℕ) (old mid new : Option (List Event)) (h : List Event) (line : List ℕ)
    → Adds old mid (HasReported line) → Adds mid new (HasReported text) → old ≡ Some h
    → (later : List Event) × (new ≡ Some (h ++ later)) × IsQuiet (Some text) later
quiet_both text old mid new h line first second is =
    let before : mid ≡ Some (h ++ HasReported line ∷ []) = added old mid h (HasReported line) is first in (
      HasReported line ∷ HasReported text ∷ [],
      added mid new (h ++ HasReported line ∷ []) (HasReported text) before second
          ∙ ap (λ (x : List Event). Some x) (append_assoc h (HasReported line ∷ []) (HasReported text ∷ [])),
      refl,
    )

-- what is allowed without an explanation is allowed with one
pub quiet_without : (explanation : Option (List ℕ)) (es : List Event) → IsQuiet None es → IsQuiet explanation es
quiet_without explanation [] quiet = tt
quiet_without explanation (HasReported line ∷ []) quiet = tt
quiet_without explanation (HasReported line ∷ e ∷ es) quiet = elim quiet [ ]
quiet_without explanation (HasRead name bytes ∷ es) quiet = elim quiet [ ]
quiet_without explanation (HasWritten name bytes ∷ es) quiet = elim quiet [ ]
quiet_without explanation (HasPut bytes ∷ es) quiet = elim quiet [ ]

-- the events of a report without an explanation are those of one with any
pub told_without : (explanation : Option (List ℕ)) (new : Option (List Event)) (h : List Event)
    → (later : List Event) × (new ≡ Some (h ++ later)) × IsQuiet None later
    → (later : List Event) × (new ≡ Some (h ++ later)) × IsQuiet explanation later
told_without explanation new h told = (told.0, told.1, quiet_without explanation told.0 told.2)

pub ruleset reporting = (quiet_none, quiet_line, quiet_line_kept, quiet_both)
