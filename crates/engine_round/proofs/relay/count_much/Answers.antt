use Rattle.std.proofs.Common.{◌≡◌, length, ap, arith}
use Rattle.engine_round.proofs.relay.count_much.Goals as goal

pub returns-then-taken-ge-MUCH-clause-countable : goal.returns-then-taken-ge-MUCH-clause-countable
returns-then-taken-ge-MUCH-clause-countable g c =
    let taken = ap (λ w. w.taken) c.count_taken.ensures.counted.worker in
    let ins = ap (λ w. length w.ins) c.count_taken.ensures.counted.worker in
    omega (arith, taken, ins, c.workers-more.ensures.ins)
