use Rattle.std.proofs.Common.{◌≡◌, ◌∙◌, map, length, inl, inr, sym}
use Rattle.engine_round.proofs.Followed.{all_taken}
use Rattle.engine_round.proofs.Seating.{next_number}
use Rattle.engine_round.proofs.start.jobs_of.Goals as goal

pub invariant_of-push : goal.invariant_of-push
invariant_of-push g c =
    next_number c.len-number.result c.loop-seat.jobs.len c.loop-seat.jobs.items c.in-Some.worker c.loop-seat.seat-iterator.b.rest.items
    c.next.new.self.b.rest.items c.args.workers.items c.len-number.ensures c.loop-seat.jobs.ok.0 c.in-Some.ensures.steps.1.0
    c.loop-seat.invariant.workers c.requires.numbered

pub returns-clause-seats : goal.returns-clause-seats
returns-clause-seats g c =
    let none : length c.loop-seat.seat-iterator.a.rest.items ≡ 0 = elim c.in-None.ensures.steps [
      | inl p ↦ sym c.loop-seat.seat-iterator.a.rest.ok.0 ∙ p.1.0
      | inr p ↦ c.loop-seat.invariant.same ∙ (sym c.loop-seat.seat-iterator.b.rest.ok.0 ∙ p.1.0)
    ] in
    all_taken (map (λ j. j.seat) c.loop-seat.jobs.items) c.loop-seat.seat-iterator.a.rest.items c.args.seats.items none c.loop-seat.invariant.seats

pub returns-clause-workers : goal.returns-clause-workers
returns-clause-workers g c =
    let none : length c.loop-seat.seat-iterator.b.rest.items ≡ 0 = elim c.in-None.ensures.steps [
      | inl p ↦ sym c.loop-seat.invariant.same ∙ (sym c.loop-seat.seat-iterator.a.rest.ok.0 ∙ p.1.0)
      | inr p ↦ sym c.loop-seat.seat-iterator.b.rest.ok.0 ∙ p.1.0
    ] in
    all_taken (map (λ j. j.worker) c.loop-seat.jobs.items) c.loop-seat.seat-iterator.b.rest.items c.args.workers.items none c.loop-seat.invariant.workers
