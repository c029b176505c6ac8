use Rattle.std.proofs.Common.{◌≡◌, ◌++◌, map, length}
use Rattle.engine_round.proofs.start.jobs_of.Given as goal

abbrev pub invariant-loop-seat : goal.invariant-loop-seat
invariant-loop-seat g l = record {
  same : length l.seat-iterator.a.rest.items ≡ length l.seat-iterator.b.rest.items;
  seats : map (λ j. j.seat) l.jobs.items ++ l.seat-iterator.a.rest.items ≡ l.fn.seats.items;
  workers : map (λ j. j.worker) l.jobs.items ++ l.seat-iterator.b.rest.items ≡ l.fn.workers.items;
}
