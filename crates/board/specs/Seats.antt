-- Which board a seat belongs to, and what the seat knows.
use Rattle.std.specs.Prelude.{◌≡◌, ◌<◌, []}
use Rattle.atomic_table.specs.declared.shared.Seat.{Seat}
use Rattle.board.specs.declared.views.View.{View}
use Rattle.board.specs.declared.words.Board.{Board}

-- a seat at some board
abbrev pub BoardSeat : Type 0
BoardSeat = Seat (Unit {0}) View

-- what the seat knows
abbrev pub view : Seat (Unit {0}) View → View
view s = s.me.0

-- the seat is at this board, and has a part
abbrev pub IsSeatOf : Board → Seat (Unit {0}) View → Type 0
IsSeatOf b s = (s.table_id ≡ b.table.shared.table_id) × (s.me.1 ≡ []) × (0 < s.me.0.parts)
