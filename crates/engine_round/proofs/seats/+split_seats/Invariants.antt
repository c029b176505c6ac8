use Rattle.engine_round.proofs.seats.+split_seats.Given as goal

abbrev pub decreases-split_seats : goal.decreases-split_seats
decreases-split_seats l = l.count
