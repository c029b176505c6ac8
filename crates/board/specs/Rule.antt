-- What seats know of a board, and the rule of the board.
use Rattle.std.specs.Prelude.{◌≡◌, ℕ, ◌+◌, ◌-◌, ◌*◌, ◌/◌, ◌^◌, ◌<◌, nat_le, if◌then◌else◌, List, [], ◌∷◌, map, length, slice_index, ℤ, pos, ◌+ℤ◌}
use mathlib.Core.Option.{some}
use lib.ListN.{get_elem?}
use Rattle.cost.specs.Distances.{Distance, Finite, Infinite, ◌≤ᵈ◌, lesser, least, IsWithin}
use Rattle.atomic_table.specs.Table.{State}
use Rattle.board.specs.declared.views.View.{View}

-- ---- distances as words

-- the word of a distance
abbrev pub word_of : Distance → ℕ
word_of (Finite n) = n
word_of Infinite = 2 ^ 64 - 1

-- the distance of a word
abbrev pub distance_at : ℕ → Distance
distance_at n = if nat_le n (2 ^ 63) then Finite n else Infinite

-- ---- what a seat knows

-- the parts of all seats together
abbrev pub all_parts : ℕ
all_parts = 2 ^ 64

-- the view of the first seat, which has every part
abbrev pub first_view : View
first_view = record { seen = Infinite; offered = Infinite; share = pos 0; parts = all_parts }

-- the view of a seat that was joined into another
abbrev pub spent_view : View
spent_view = record { seen = Infinite; offered = Infinite; share = pos 0; parts = 0 }

abbrev pub with_seen : View → Distance → View
with_seen v d = record { seen = d; offered = v.offered; share = v.share; parts = v.parts }

abbrev pub with_offered : View → Distance → View
with_offered v d = record { seen = v.seen; offered = d; share = v.share; parts = v.parts }

abbrev pub with_share : View → ℤ → View
with_share v z = record { seen = v.seen; offered = v.offered; share = z; parts = v.parts }

-- the view that the old seat has after a split: what it knew, and half of its parts
abbrev pub kept_part : View → View
kept_part v = record { seen = v.seen; offered = v.offered; share = v.share; parts = v.parts / 2 }

-- the view of the new seat: it has seen the same bound, and has offered and added nothing
abbrev pub new_part : View → View
new_part v = record { seen = v.seen; offered = Infinite; share = pos 0; parts = v.parts - v.parts / 2 }

-- what two seats know together
abbrev pub joined : View → View → View
joined v w =
    record { seen = lesser v.seen w.seen; offered = lesser v.offered w.offered; share = v.share +ℤ w.share; parts = v.parts + w.parts }

-- ---- the rule

abbrev pub total_share : List View → ℤ
total_share [] = pos 0
total_share (v ∷ vs) = v.share +ℤ total_share vs

abbrev pub total_parts : List View → ℕ
total_parts [] = 0
total_parts (v ∷ vs) = v.parts + total_parts vs

-- `n` is congruent to `z` modulo 2^64
abbrev pub IsModulo : ℕ → ℤ → Type 0
IsModulo n z = (up : ℕ) × (down : ℕ) × (pos (n + up * 2 ^ 64) ≡ z +ℤ pos (down * 2 ^ 64))

-- a seat has seen nothing below the bound; distances are at most 2^63 or infinite; and a seat without parts has offered
-- and added nothing
pub record IsFair (bound : Distance) (v : View) : Type 0 where
  pub seen : bound ≤ᵈ v.seen
  pub seen_within : IsWithin (2 ^ 63) v.seen
  pub offered_within : IsWithin (2 ^ 63) v.offered
  pub spent : v.parts ≡ 0 → (v.offered ≡ Infinite) × (v.share ≡ pos 0)

-- the bound is the least cost that was offered, the units are the sum of the shares, the flag is 0 or 1, and no part is
-- lost
pub record Holds (bound units stop : ℕ) (views : List View) : Type 0 where
  pub bound_is : bound ≡ word_of (least (map (λ v. v.offered) views))
  pub counted : IsModulo units (total_share views)
  pub flag : stop < 2
  pub whole : total_parts views ≡ all_parts
  pub fair : (id : ℕ) (v : View) → get_elem? views id ≡ some v → IsFair (least (map (λ w. w.offered) views)) v

-- word 0 is the bound, word 16 the units, and word 1 the flag; the other words are unconstrained
abbrev pub IsRuled : State (Unit {0}) View → Type 0
IsRuled s = (length s.words ≡ 17) × Holds (slice_index s.words 0) (slice_index s.words 16) (slice_index s.words 1) s.views
