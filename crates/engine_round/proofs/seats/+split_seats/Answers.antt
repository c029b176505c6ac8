use Rattle.std.proofs.Common.{◌/◌, arith}
use Rattle.board.specs.Seats.{view}
use Rattle.engine_round.proofs.Splits.{both_halves}
use Rattle.engine_round.proofs.seats.+split_seats.Goals as goal

pub returns : goal.returns
returns t c =
    both_halves c.args.board.now (view c.args.seat) (view c.split_seat-other.new.seat) (view c.split_seat-other.result) c.args.count
    (c.args.count / 2) c.in_ok-seats-2.seats.items c.in_ok-others.others.items c.append.new.self.items (omega arith)
    c.split_seat-other.ensures.seat.1 c.split_seat-other.ensures.new.1 c.in_ok-seats-2.ensures c.in_ok-others.ensures c.in_ok-append.ensures.items
