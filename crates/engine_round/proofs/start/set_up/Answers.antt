use Rattle.std.proofs.Common.{length, refl}
use Rattle.board.specs.Seats.{view}
use Rattle.engine_round.proofs.Seating.{enough_parts, are_set_up}
use Rattle.engine_round.proofs.start.set_up.Goals as goal

pub split_seats-requires-clause-count : goal.split_seats-requires-clause-count
split_seats-requires-clause-count g c =
    enough_parts c.len.result (length c.args.workers.items) c.args.workers.len c.args.workers.cap c.args.best (view c.open.new.seat)
    (view c.split_seat-other.result) c.len.ensures c.args.workers.ok.0 c.requires.some c.args.workers.ok.1 c.args.workers.small
    c.open.ensures.view c.split_seat-other.ensures.new.1

pub returns : goal.returns
returns g c =
    are_set_up c.args.board.now c.args.best c.args.workers.items (view c.open.new.seat) (view c.split_seat-other.new.seat)
    (view c.split_seat-other.result) c.split_seat-other.new.seat c.in_ok-seats.seats.items c.in_ok-jobs.jobs.items c.len.result
    c.open.ensures.view c.split_seat-other.ensures.seat.1 c.split_seat-other.ensures.new.1 c.split_seat-other.ensures.seat.0 refl
    c.in_ok-seats.ensures c.in_ok-jobs.ensures.seats c.in_ok-jobs.ensures.workers c.requires.none_aside
