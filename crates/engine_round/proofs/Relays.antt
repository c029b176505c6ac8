-- What sending and receiving between turns keep.
use Rattle.std.proofs.Common.{◌≡◌, ℕ, zero, suc, ⊎_elim, List, [], Some, None, length, refl, sym, ap, ◌∙◌}
use Rattle.cost.specs.Distances.{Infinite}
use Rattle.cost.proofs.DistanceLaws.{lesser_left, at_most_infinite}
use Rattle.board.specs.declared.views.View.{View}
use Rattle.board.specs.declared.words.Board.{Board}
use Rattle.board.specs.Seats.{BoardSeat, IsSeatOf, view}
use Rattle.owner.specs.declared.fault.OwnerFault.TheVariants.{OutOfMemory}
use Rattle.worker.specs.declared.outcome.Received.{Received}
use Rattle.worker.specs.declared.outcome.Received.TheVariants.{Taken, Nothing, SetAside}
use Rattle.worker.specs.Workers.{WorkerOf}
use Rattle.worker.specs.Turns.{chained, ReceivesFrom, SendsTo, HasSent, HasNotSent, HasCounted}
use Rattle.worker.proofs.Chains.{sends_keep, receives_keep, stopped_uncounted}
use Rattle.engine_round.specs.declared.fault.TurnFault.TheVariants.{Owner}
use Rattle.engine_round.specs.Turns.{MayStop, IsSeated, IsRelaying, IsAtWork, CountsOrNot, HasReceivedAll, HasRelayedAside, HasWorked}
use Rattle.engine_round.proofs.Kept.{KeepsBounds, relaying, same_through, same_worker, still, changed, sends_same, receives_same, sends_bounds, receives_bounds, seated_through, stopped_turn}

module _ {S F : Type 0} where
  send_keeps_others : (values : List ℕ → F → List ℕ) (to : ℕ) (a b : WorkerOf S F) → SendsTo values to a b → (b.taken ≡ a.taken) × (b.ins ≡ a.ins)
  send_keeps_others values to a b has = ⊎_elim
      (λ (t : HasSent values to a b). (ap (λ (w : WorkerOf S F). w.taken) t.worker, ap (λ (w : WorkerOf S F). w.ins) t.worker))
      (λ (t : HasNotSent values to a b). (ap (λ (w : WorkerOf S F). w.taken) t.worker, ap (λ (w : WorkerOf S F). w.ins) t.worker))
      has

  -- sending leaves what was taken, and the receiving ends
  pub sends_keep_others : (values : List ℕ → F → List ℕ) (k : ℕ) (a b : WorkerOf S F) → chained (SendsTo values) k a b → (b.taken ≡ a.taken) × (b.ins ≡ a.ins)
  sends_keep_others values zero a b e = (ap (λ (w : WorkerOf S F). w.taken) e, ap (λ (w : WorkerOf S F). w.ins) e)
  sends_keep_others values (suc k) a b (m, before, step) =
      let p = sends_keep_others values k a m before in let q = send_keeps_others values k m b step in (q.0 ∙ p.0, q.1 ∙ p.1)

  -- nothing was read or offered
  unread : (a b : WorkerOf S F) (u v : View) → b.seen ≡ a.seen → b.offered ≡ a.offered → v.seen ≡ u.seen → v.offered ≡ u.offered
      → v.parts ≡ u.parts → IsSeated a b u v
  unread a b u v same_seen same_offered view_seen view_offered parts = record {
    seen_since = Infinite;
    offered_since = Infinite;
    seen = same_seen ∙ sym (lesser_left a.seen Infinite (at_most_infinite a.seen));
    offered = same_offered ∙ sym (lesser_left a.offered Infinite (at_most_infinite a.offered));
    view_seen = view_seen ∙ sym (lesser_left u.seen Infinite (at_most_infinite u.seen));
    view_offered = view_offered ∙ sym (lesser_left u.offered Infinite (at_most_infinite u.offered));
    parts = parts;
  }

  pub at_work : (b : Board) (s : BoardSeat) (w : WorkerOf S F) → IsSeatOf b s → w.uncounted ≡ 0 → w.taken ≡ 0 → w.misfits ≡ []
      → IsAtWork b s w s w
  at_work b s w seat uncounted taken misfits = record {
    seat = seat;
    same = same_worker w w refl;
    seated = unread w w (view s) (view s) refl refl refl refl refl;
    uncounted = uncounted;
    taken = taken;
    misfits = misfits;
  }

  pub still_at_work : (b : Board) (s : BoardSeat) (old : WorkerOf S F) (t : BoardSeat) (w : WorkerOf S F) (u : BoardSeat) (x : WorkerOf S F)
      → IsAtWork b s old t w → IsAtWork b t w u x → IsAtWork b s old u x
  still_at_work b s old t w u x first second = record {
    seat = second.seat;
    same = same_through old w x first.same second.same;
    seated = seated_through old w x (view s) (view t) (view u) first.seated second.seated;
    uncounted = second.uncounted;
    taken = second.taken;
    misfits = second.misfits;
  }

  pub still_relaying : (b : Board) (s : BoardSeat) (old : WorkerOf S F) (t : BoardSeat) (w : WorkerOf S F) (u : BoardSeat) (x : WorkerOf S F)
      → IsRelaying b s old t w → IsRelaying b t w u x → IsRelaying b s old u x
  still_relaying b s old t w u x first second = record {
    seat = second.seat;
    same = same_through old w x first.same second.same;
    seated = seated_through old w x (view s) (view t) (view u) first.seated second.seated;
    uncounted = second.uncounted;
    misfits = second.misfits;
  }

  -- messages were sent
  pub sent_relaying : (values : List ℕ → F → List ℕ) (b : Board) (s : BoardSeat) (old : WorkerOf S F) (t : BoardSeat) (w x : WorkerOf S F) → IsRelaying b s old t w
      → chained (SendsTo values) (length w.outs) w x → IsRelaying b s old t x
  sent_relaying values b s old t w x is sends =
      let kept : KeepsBounds w x = sends_bounds values (length w.outs) w x sends in
      still_relaying b s old t w t x is (record {
        seat = is.seat;
        same = sends_same values (length w.outs) w x sends;
        seated = unread w x (view t) (view t) kept.seen kept.offered refl refl refl;
        uncounted = (sends_keep values (length w.outs) w x sends).uncounted ∙ is.uncounted;
        misfits = kept.misfits ∙ is.misfits;
      })

  module _ (owner : S → List ℕ → ℕ → ℕ) (values : List ℕ → F → List ℕ) where
    -- messages were received
    pub received_relaying : (b : Board) (s : BoardSeat) (old : WorkerOf S F) (t : BoardSeat) (w x : WorkerOf S F) → IsRelaying b s old t w
        → chained (ReceivesFrom owner values) (length w.ins) w x → IsRelaying b s old t x
    received_relaying b s old t w x is receives =
        let kept : KeepsBounds w x = receives_bounds owner values (length w.ins) w x receives in
        still_relaying b s old t w t x is (record {
          seat = is.seat;
          same = receives_same owner values (length w.ins) w x receives;
          seated = unread w x (view t) (view t) kept.seen kept.offered refl refl refl;
          uncounted = (receives_keep owner values (length w.ins) w x receives).uncounted ∙ is.uncounted;
          misfits = kept.misfits ∙ is.misfits;
        })

    -- what was taken is counted
    pub counted_at_work : (b : Board) (s : BoardSeat) (old : WorkerOf S F) (t u : BoardSeat) (w y : WorkerOf S F) → IsRelaying b s old t w
        → IsSeatOf b u → HasCounted owner w y (view t) (view u) → IsAtWork b s old u y
    counted_at_work b s old t u w y is there counts = record {
      seat = there;
      same = same_through old w y is.same (changed _ _ _ counts.worker (still _ _ refl refl refl refl));
      seated = seated_through old w y (view s) (view t) (view u) is.seated
          (unread w y (view t) (view u) (ap (λ (v : WorkerOf S F). v.seen) counts.worker)
          (ap (λ (v : WorkerOf S F). v.offered) counts.worker) (ap (λ (v : View). v.seen) counts.view)
          (ap (λ (v : View). v.offered) counts.view) (ap (λ (v : View). v.parts) counts.view));
      uncounted = ap (λ (v : WorkerOf S F). v.uncounted) counts.worker ∙ is.uncounted;
      taken = ap (λ (v : WorkerOf S F). v.taken) counts.worker;
      misfits = ap (λ (v : WorkerOf S F). v.misfits) counts.worker ∙ is.misfits;
    }

    -- what was taken is counted, or nothing is done
    pub counted_or_not : (b : Board) (s : BoardSeat) (old : WorkerOf S F) (t u : BoardSeat) (w y : WorkerOf S F) → IsRelaying b s old t w
        → IsSeatOf b u → CountsOrNot owner w y (view t) (view u) → IsRelaying b s old u y
    counted_or_not b s old t u w y is there counts = ⊎_elim
        (λ (c : HasCounted owner w y (view t) (view u)). relaying b s old u y (counted_at_work b s old t u w y is there c))
        (λ (none : (y ≡ w) × (view u ≡ view t)). record {
          seat = there;
          same = same_through old w y is.same (same_worker w y none.0);
          seated = seated_through old w y (view s) (view t) (view u) is.seated
              (unread w y (view t) (view u) (ap (λ (v : WorkerOf S F). v.seen) none.0) (ap (λ (v : WorkerOf S F). v.offered) none.0)
              (ap (λ (v : View). v.seen) none.1) (ap (λ (v : View). v.offered) none.1) (ap (λ (v : View). v.parts) none.1));
          uncounted = ap (λ (v : WorkerOf S F). v.uncounted) none.0 ∙ is.uncounted;
          misfits = ap (λ (v : WorkerOf S F). v.misfits) none.0 ∙ is.misfits;
        })
        counts

    -- messages were sent, after what was taken is counted or not
    pub sent_after_counting : (b : Board) (s : BoardSeat) (old : WorkerOf S F) (t u : BoardSeat) (w y x : WorkerOf S F) → IsRelaying b s old t w
        → IsSeatOf b u → CountsOrNot owner w y (view t) (view u) → chained (SendsTo values) (length y.outs) y x → IsRelaying b s old u x
    sent_after_counting b s old t u w y x is there counts sends =
        sent_relaying values b s old u y x (counted_or_not b s old t u w y is there counts) sends

    -- a message that was set aside ends the worker's turns
    pub aside_turn : (may_stop : MayStop) (b : Board) (s : BoardSeat) (old : WorkerOf S F) (t : BoardSeat) (w : WorkerOf S F) (u v : BoardSeat)
        (x : WorkerOf S F) → IsAtWork b s old t w → HasRelayedAside owner values b t w u x → IsSeatOf b v → view v ≡ view u
        → HasWorked owner values may_stop b s old (record { worker = x; seat = v; fault = None })
    aside_turn may_stop b s old t w u v x is aside there unseen =
        stopped_turn owner values may_stop b s old aside.seat v aside.worker x
        (still_relaying b s old t w aside.seat aside.worker (relaying b s old t w is) aside.before) there
        (stopped_uncounted owner values aside.worker x aside.stopped ∙ aside.before.uncounted) (unseen ∙ aside.unseen) aside.stopped

    -- memory ran out
    pub memory_turn : (may_stop : MayStop) (b : Board) (s v : BoardSeat) (old x : WorkerOf S F) → IsSeatOf b v
        → HasWorked owner values may_stop b s old (record { worker = x; seat = v; fault = Some (Owner OutOfMemory) })
    memory_turn may_stop b s v old x there = record { seat = there; kept = λ other. absurd (other refl); ended = tt }

    -- no message was set aside
    pub all_received : (a b : WorkerOf S F) (r : Received) → (r ≡ SetAside → ⊥) → HasReceivedAll owner values a b r
        → chained (ReceivesFrom owner values) (length a.ins) a b
    all_received a b Taken other has = has
    all_received a b Nothing other has = has
    all_received a b SetAside other has = absurd (other refl)
