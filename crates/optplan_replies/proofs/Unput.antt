-- Between which histories of a device nothing was written to standard output.
use Rattle.std.proofs.Common.{◌≡◌, ℕ, List, [], ◌∷◌, ◌++◌, sym, ap, subst, ◌∙◌, append_assoc}
use Rattle.std.specs.Prelude.{Option, Some, None}
use Rattle.std.proofs.lemmas.List.{append-nil}
use Rattle.std.specs.Option.{option_map}
use Rattle.optplan_device.specs.Events.{Event, HasRead, HasWritten, HasPut, HasReported, Adds}
use Rattle.optplan_replies.specs.Runs.{HasExplained, IsQuiet, PutsNothing, IsUnput}

-- events one after another
puts_nothing_then : (es fs : List Event) → PutsNothing es → PutsNothing fs → PutsNothing (es ++ fs)
puts_nothing_then [] fs first second = second
puts_nothing_then (HasRead name bytes ∷ es) fs first second = puts_nothing_then es fs first second
puts_nothing_then (HasWritten name bytes ∷ es) fs first second = puts_nothing_then es fs first second
puts_nothing_then (HasPut bytes ∷ es) fs first second = elim first [ ]
puts_nothing_then (HasReported bytes ∷ es) fs first second = puts_nothing_then es fs first second

-- an explanation, or none
explained_puts_nothing : (explanation : Option (List ℕ)) (es : List Event) → HasExplained explanation es → PutsNothing es
explained_puts_nothing explanation [] explained = tt
explained_puts_nothing None (e ∷ es) explained = elim explained [ ]
explained_puts_nothing (Some text) (e ∷ es) explained = subst PutsNothing (sym explained) tt

-- at most one report and its explanation
pub quiet_puts_nothing : (explanation : Option (List ℕ)) (es : List Event) → IsQuiet explanation es → PutsNothing es
quiet_puts_nothing explanation [] quiet = tt
quiet_puts_nothing explanation (HasReported line ∷ es) quiet = explained_puts_nothing explanation es quiet
quiet_puts_nothing explanation (HasRead name bytes ∷ es) quiet = elim quiet [ ]
quiet_puts_nothing explanation (HasWritten name bytes ∷ es) quiet = elim quiet [ ]
quiet_puts_nothing explanation (HasPut bytes ∷ es) quiet = elim quiet [ ]

-- the same history
pub unput_same : (old new : Option (List Event)) → new ≡ old → IsUnput old new
unput_same old new same h is = ([], same ∙ is ∙ ap (λ (x : List Event). Some x) (sym (append-nil h)), tt)

-- one more event, which is none of standard output
pub unput_added : (old new : Option (List Event)) (e : Event) → PutsNothing (e ∷ []) → Adds old new e → IsUnput old new
unput_added old new e none adds h is = (e ∷ [], adds ∙ ap (λ (o : Option (List Event)). option_map (λ es. es ++ e ∷ []) o) is, none)

-- more events, which are none of standard output
pub unput_more : (explanation : Option (List ℕ)) (old new : Option (List Event))
    → ((h : List Event) → old ≡ Some h → (later : List Event) × (new ≡ Some (h ++ later)) × IsQuiet explanation later) → IsUnput old new
unput_more explanation old new told h is = let t = told h is in (t.0, t.1, quiet_puts_nothing explanation t.0 t.2)

-- one call after another
pub unput_then : (old mid new : Option (List Event)) → IsUnput old mid → IsUnput mid new → IsUnput old new
unput_then old mid new first second h is =
    let f = first h is in
    let s = second (h ++ f.0) f.1 in
    (f.0 ++ s.0, s.1 ∙ ap (λ (x : List Event). Some x) (append_assoc h f.0 s.0), puts_nothing_then f.0 s.0 f.2 s.2)
