-- A hash index of a closed list, in parts: each part has the slots of the states whose hashes select it.
use Rattle.std.specs.Prelude.{◌≡◌, ◌≢◌, ℕ, ◌-◌, ◌<◌, ◌≤◌, ◌^◌, min, List, length, slice_get, Vec, Some}
use Rattle.std.specs.Global.{Global}
use Rattle.cert_value.specs.Certificates.{Entry}
use Rattle.slots.specs.declared.probing.Slot.{Slot}
use Rattle.slots.specs.Slots.{links_of, home_of, IsFoundAfter}
use Rattle.checker_states.specs.declared.note.Note.{Note}
use Rattle.checker_states.specs.Hashes.{hash_of, part_of, number_of, tag_of}

-- what a slot stores of a state with this hash and cost
abbrev pub note_of : ℕ → ℕ → Note
note_of hash cost = record { tag = tag_of hash; cost = min cost 65535 }

-- a slot without a state
abbrev pub empty : Slot Note
empty = record { link = 0; note = record { tag = 0; cost = 0 } }

-- the state at index `place` of the closed list is found in these slots of one of `parts` parts by probing from the
-- home slot of `hash`
abbrev pub IsIn : List (Slot Note) → ℕ → ℕ → ℕ → Type 0
IsIn slots parts hash place = (steps : ℕ) × IsFoundAfter (links_of slots) (home_of (number_of hash parts) (length slots)) place steps

-- the slot points to an index below `end`, and has the tag and cost of the state there
abbrev pub IsNoted : List ℕ → List Entry → ℕ → Slot Note → Type 0
IsNoted multipliers closed end slot =
    (e : Entry) × (slot.link ≤ end) × (slice_get closed (slot.link - 1) ≡ Some e) × (slot.note ≡ note_of (hash_of multipliers e.state) e.cost)

-- each state of the part with an index below `end` is found, and every slot that is taken points to one of these states
pub record IndexesPart (parts part : ℕ) (multipliers : List ℕ) (closed : List Entry) (end : ℕ) (slots : List (Slot Note)) : Type 0 where
  pub found : (i : ℕ) (e : Entry) → i < end → slice_get closed i ≡ Some e → part_of (hash_of multipliers e.state) parts ≡ part →
      IsIn slots parts (hash_of multipliers e.state) i
  pub noted : (k : ℕ) (slot : Slot Note) → slice_get slots k ≡ Some slot → slot.link ≢ 0 → IsNoted multipliers closed end slot

-- the slots of a part: at least one, through which every state of the part is found
pub record IsPart (parts part : ℕ) (multipliers : List ℕ) (closed : List Entry) (slots : List (Slot Note)) : Type 0 where
  pub some : 0 < length slots
  pub few : length slots < 2 ^ 32
  pub holds : IndexesPart parts part multipliers closed (length closed) slots

-- parts through which every state of the closed list is found
pub record IndexesTo (multipliers : List ℕ) (closed : List Entry) (parts : List (Vec (Slot Note) Global)) : Type 0 where
  pub some : 0 < length parts
  pub few : length parts < 2 ^ 32
  pub each : (part : ℕ) (slots : Vec (Slot Note) Global) → slice_get parts part ≡ Some slots → IsPart (length parts) part multipliers closed slots.items
