-- Slots of a hash index with open addressing (linear probing: Knuth 1998, The Art of Computer Programming 3, section
-- 6.4).
use Rattle.std.specs.Prelude.{◌≡◌, ◌≢◌, ℕ, ◌+◌, ◌-◌, ◌*◌, ◌/◌, ◌^◌, ◌<◌, ◌==◌, nat_lt, if◌then◌else◌, List, map, length, slice_index, slice_set, count_by}
use Rattle.slots.specs.declared.probing.Slot.{Slot}

-- the home slot of a 32-bit hash among `size` slots
unfoldable pub home_of : ℕ → ℕ → ℕ
home_of number size = number * size / 2 ^ 32

-- the number of the slot after `steps` probes from slot `home`; the first slot follows the last
abbrev pub probed : ℕ → ℕ → ℕ → ℕ
probed size home steps = if nat_lt (home + steps) size then home + steps else home + steps - size

-- the links of slots
abbrev pub links_of : {N : Type 0} → List (Slot N) → List ℕ
links_of slots = map (λ s. s.link) slots

-- the number of empty slots
abbrev pub empties : List ℕ → ℕ
empties links = count_by (λ l. l == 0) links

-- the link of the slot after `steps` probes from slot `home`
abbrev pub link_after : List ℕ → ℕ → ℕ → ℕ
link_after links home steps = slice_index links (probed (length links) home steps)

-- the first `steps` slots of the probe sequence from slot `home` are taken
abbrev pub AreTaken : List ℕ → ℕ → ℕ → Type 0
AreTaken links home steps = (j : ℕ) → j < steps → link_after links home j ≢ 0

-- the first empty slot of the probe sequence from slot `home` comes after `steps` probes
pub record IsFirstEmpty (links : List ℕ) (home steps : ℕ) : Type 0 where
  pub within : steps < length links
  pub free : link_after links home steps ≡ 0
  pub taken : AreTaken links home steps

-- the link to index `place` is in the slot after `steps` probes from slot `home`, and no slot before it is empty
pub record IsFoundAfter (links : List ℕ) (home place steps : ℕ) : Type 0 where
  pub within : steps < length links
  pub here : link_after links home steps ≡ place + 1
  pub taken : AreTaken links home steps

-- `slot` has been written into the first empty one of the probe sequence from slot `home`
abbrev pub AddsSlot : {N : Type 0} → ℕ → Slot N → List (Slot N) → List (Slot N) → Type 0
AddsSlot home slot old new =
    (steps : ℕ) × IsFirstEmpty (links_of old) home steps × (new ≡ slice_set old (probed (length old) home steps) slot)
