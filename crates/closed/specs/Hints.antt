-- Hints: what later look-ups of a form start with.
use Rattle.std.specs.Prelude.{◌≡◌, List, map}
use Rattle.std.specs.Hash.{HashWrites}
use Rattle.closed.specs.declared.message.Message.{Message}
use Rattle.closed.specs.declared.rows.Hint.{Hint}
use Rattle.closed.specs.Rows.{tag_of}

-- the hint has the tag of the form, if `writes` returns what a form writes to a hasher
abbrev pub IsHintFor : {F : Type 0} → (F → HashWrites) → F → Hint → Type 0
IsHintFor writes form hint = hint.tag ≡ tag_of (writes form)

-- the hints are for the states of messages, one for each
abbrev pub AreHintsFor : {F : Type 0} → (F → HashWrites) → List (Message F) → List Hint → Type 0
AreHintsFor writes messages hints = map (λ h. h.tag) hints ≡ map (λ m. tag_of (writes m.state)) messages
