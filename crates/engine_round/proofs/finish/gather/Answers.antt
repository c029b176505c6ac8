use Rattle.std.proofs.Common.{◌∙◌, ◌++◌, map, vec_len, refl, sym, ap, subst}
use Rattle.std.specs.Prelude.{All}
use Rattle.board.specs.Seats.{IsSeatOf, view}
use Rattle.engine_round.specs.Turns.{WorkedOf}
use Rattle.engine_round.specs.Jobs.{HasMemory, joined_all}
use Rattle.engine_round.specs.Rounds.{first_fault, earlier}
use Rattle.engine_round.proofs.Followed.{all_of_none}
use Rattle.engine_round.proofs.Gathering.{seat_next, seats_left, joined_next, worker_next, fault_next, memory_next}
use Rattle.engine_round.proofs.finish.gather.Goals as goal

pub loop-done-init : goal.loop-done-init
loop-done-init g c =
    let e = c.into_iter-done-iterator.ensures.into_iter_gives.0 in
    record {
      own = c.requires.own;
      seats = subst (All (λ (r : WorkedOf g.row.S.Denot g.row.F.Denot). IsSeatOf c.args.board.now r.seat)) (sym e) c.requires.seats;
      joined = ap (joined_all (view c.args.own)) e;
      workers = ap (λ ws. ws ++ map (λ (r : WorkedOf g.row.S.Denot g.row.F.Denot). r.worker) c.into_iter-done-iterator.result.rest.items) c.in_ok-workers.ensures.items
          ∙ ap (map (λ (r : WorkedOf g.row.S.Denot g.row.F.Denot). r.worker)) e;
      fault = ap (λ n. first_fault n (map (λ (r : WorkedOf g.row.S.Denot g.row.F.Denot). r.fault) c.into_iter-done-iterator.result.rest.items)) c.in_ok-workers.ensures.len
          ∙ ap (λ (rs : _). first_fault 0 (map (λ (r : WorkedOf g.row.S.Denot g.row.F.Denot). r.fault) rs)) e;
      memory = subst (All HasMemory) e;
    }

pub join_seat-requires : goal.join_seat-requires
join_seat-requires g c = (
  c.loop-done.invariant.own,
  seat_next c.args.board.now c.in-Some.done (record { worker = c.done.inside.worker; seat = c.done.inside.seat; fault = c.done.inside.fault })
      c.loop-done.done-iterator.rest.items c.next.new.self.rest.items c.in-Some.ensures.steps.0 c.done.view_is c.loop-done.invariant.seats,
)

pub loop-done-preserved : goal.loop-done-preserved
loop-done-preserved g c =
    let left = c.loop-done.done-iterator.rest.items in
    let rest = c.next.new.self.rest.items in
    let r = c.in-Some.done in
    let x : WorkedOf g.row.S.Denot g.row.F.Denot = record { worker = c.done.inside.worker; seat = c.done.inside.seat; fault = c.done.inside.fault } in
    record {
      own = c.join_seat.ensures.seat;
      seats = seats_left c.args.board.now r left rest c.in-Some.ensures.steps.0 c.loop-done.invariant.seats;
      joined = joined_next (view c.loop-done.own) (view c.join_seat.new.seat) (joined_all (view c.args.own) c.args.worked.items) r x left rest
          c.in-Some.ensures.steps.0 c.done.view_is c.join_seat.ensures.view c.loop-done.invariant.joined;
      workers = worker_next c.loop-done.workers.items c.push.new.self.items (map (λ (y : WorkedOf g.row.S.Denot g.row.F.Denot). y.worker) c.args.worked.items)
          c.done.inside.worker r x left rest c.in-Some.ensures.steps.0 c.done.view_is refl c.in_ok-push.ensures.items c.loop-done.invariant.workers;
      fault = fault_next c.loop-done.first c.earlier-first.result (first_fault 0 (map (λ (y : WorkedOf g.row.S.Denot g.row.F.Denot). y.fault) c.args.worked.items))
          (vec_len c.loop-done.workers) (vec_len c.push.new.self) c.in_ok-unless_memory.field-0 r x left rest c.in-Some.ensures.steps.0 c.done.view_is
          c.in_ok-unless_memory.ensures.0
          (c.earlier-first.ensures ∙ ap (λ n. earlier c.loop-done.first n c.in_ok-unless_memory.field-0) c.len-in-loop-done.ensures)
          c.in_ok-push.ensures.len c.loop-done.invariant.fault;
      memory = memory_next c.args.worked.items r x left rest c.in-Some.ensures.steps.0 c.done.view_is c.in_ok-unless_memory.ensures.1 c.loop-done.invariant.memory;
    }

pub returns-clause-memory : goal.returns-clause-memory
returns-clause-memory g c =
    c.loop-done.invariant.memory (all_of_none HasMemory c.loop-done.done-iterator.rest.items (sym c.loop-done.done-iterator.rest.ok.0 ∙ c.in-None.ensures.steps.0))
