use Rattle.board.specs.Seats.{view}
use Rattle.engine.proofs.Asking.{told_bound}
use Rattle.engine.proofs.ask.tell.Goals as goal

pub returns : goal.returns
returns g c =
    told_bound c.args.bound c.args.worker.now c.look.new.self (view c.in_ok-board.seat) (view c.offer.new.seat) (view c.look.new.seat)
    c.in_ok-board.ensures.1 c.offer.ensures.view c.look.ensures.looked c.close-closed.ensures.seen
