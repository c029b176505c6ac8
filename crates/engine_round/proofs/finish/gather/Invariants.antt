use Rattle.std.proofs.Common.{◌≡◌, ◌++◌, map, vec_len}
use Rattle.std.specs.Prelude.{All}
use Rattle.board.specs.Seats.{IsSeatOf, view}
use Rattle.engine_round.specs.Jobs.{HasMemory, joined_all}
use Rattle.engine_round.specs.Rounds.{first_fault}
use Rattle.engine_round.proofs.Faults.{first_of}
use Rattle.engine_round.proofs.finish.gather.Given as goal

abbrev pub invariant-loop-done : goal.invariant-loop-done
invariant-loop-done g l = record {
  own : IsSeatOf l.board l.own;
  seats : All (λ r. IsSeatOf l.board r.seat) l.done-iterator.rest.items;
  joined : joined_all (view l.own) l.done-iterator.rest.items ≡ joined_all (view l.fn.own) l.fn.worked.items;
  workers : l.workers.items ++ map (λ r. r.worker) l.done-iterator.rest.items ≡ map (λ r. r.worker) l.fn.worked.items;
  fault : first_of l.first (vec_len l.workers) (map (λ r. r.fault) l.done-iterator.rest.items) ≡ first_fault 0 (map (λ r. r.fault) l.fn.worked.items);
  memory : All HasMemory l.done-iterator.rest.items → All HasMemory l.fn.worked.items;
}
