-- What a seat learns from each of its steps on a word of the board.
use Rattle.std.specs.Prelude.{◌≡◌, ℕ, ◌<◌, pos, ◌+ℤ◌, ◌-ℤ◌}
use Rattle.cost.specs.Distances.{◌≤ᵈ◌, lesser}
use Rattle.atomic_table.specs.Table.{Me, Step}
use Rattle.board.specs.declared.views.View.{View}
use Rattle.board.specs.Rule.{distance_at, with_seen, with_offered, with_share}

abbrev SeatState : Type 0
SeatState = Me (Unit {0}) View

-- the bound is read: it is at most the bound that the seat had seen, and at most the least cost that the seat had
-- offered
abbrev pub looks : Step (Unit {0}) → SeatState → ℕ → SeatState → Type 0
looks st m r m' = (m' ≡ (with_seen m.0 (distance_at r), m.1)) × (distance_at r ≤ᵈ m.0.seen) × (distance_at r ≤ᵈ m.0.offered)

-- the word of a cost is offered
abbrev pub offers : Step (Unit {0}) → SeatState → ℕ → SeatState → Type 0
offers st m r m' = m' ≡ (with_offered m.0 (lesser m.0.offered (distance_at st.first)), m.1)

abbrev pub adds : Step (Unit {0}) → SeatState → ℕ → SeatState → Type 0
adds st m r m' = m' ≡ (with_share m.0 (m.0.share +ℤ pos st.first), m.1)

abbrev pub subtracts : Step (Unit {0}) → SeatState → ℕ → SeatState → Type 0
subtracts st m r m' = m' ≡ (with_share m.0 (m.0.share -ℤ pos st.first), m.1)

-- nothing changes
abbrev pub stays : Step (Unit {0}) → SeatState → ℕ → SeatState → Type 0
stays st m r m' = m' ≡ m

-- the flag is 0 or 1
abbrev pub finds_flag : Step (Unit {0}) → SeatState → ℕ → SeatState → Type 0
finds_flag st m r m' = (m' ≡ m) × (r < 2)
