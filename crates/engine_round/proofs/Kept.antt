-- What the turns of a worker keep, and what they change at its seat.
use Rattle.std.proofs.Common.{◌≡◌, ℕ, zero, suc, inl, inr, ⊎_elim, Bool, true, false, List, [], ◌∷◌, length, Option, Some, None, refl, sym, ap, ◌∙◌, subst}
use Rattle.cost.specs.Distances.{Distance, Infinite, lesser, ◌≤ᵈ◌}
use Rattle.cost.proofs.DistanceLaws.{lesser_assoc, lesser_left, lesser_right, lesser_at_most_left, at_most_infinite, at_most_through}
use Rattle.board.specs.declared.views.View.{View}
use Rattle.board.specs.declared.words.Board.{Board}
use Rattle.board.specs.Seats.{BoardSeat, IsSeatOf, view}
use Rattle.owner.specs.declared.fault.OwnerFault.{OwnerFault}
use Rattle.owner.specs.declared.fault.OwnerFault.TheVariants.{OutOfMemory, TotalTooLarge, LimitReached}
use Rattle.owner.specs.Owned.{OwnerOf, IsExpansion}
use Rattle.worker.specs.Workers.{WorkerOf, AreSameOuts, AreSameIns}
use Rattle.worker.specs.Turns.{chained, ReceivesFrom, SendsTo, HasTaken, HasNothingTaken, HasSent, HasNotSent, HasLooked, ExpandsUnless, is_congested, HasTurned, HasStopped, HasRefused}
use Rattle.worker.proofs.Rows.{outs_through, ins_through, outs_same, ins_same}
use Rattle.engine_round.specs.declared.fault.TurnFault.{TurnFault}
use Rattle.engine_round.specs.declared.fault.TurnFault.TheVariants.{Owner, Gate}
use Rattle.engine_round.specs.Turns.{MayStop, IsSameWorker, IsSeated, IsRelaying, IsAtWork, IsTurnFault, WorkedOf, HasKept, HasWorked}

lesser_more : (x y z a b : Distance) → y ≡ lesser x a → z ≡ lesser y b → z ≡ lesser x (lesser a b)
lesser_more x y z a b e f = f ∙ (ap (λ d. lesser d b) e ∙ lesser_assoc x a b)

module _ {S F : Type 0} where
  pub same_through : (a b c : WorkerOf S F) → IsSameWorker a b → IsSameWorker b c → IsSameWorker a c
  same_through a b c ab bc = record {
    space = bc.space ∙ ab.space;
    number = bc.number ∙ ab.number;
    outs = outs_through a.outs b.outs c.outs ab.outs bc.outs;
    ins = ins_through a.ins b.ins c.ins ab.ins bc.ins;
  }

  -- a step that leaves all of this as it is
  pub still : (a b : WorkerOf S F) → b.owner.space ≡ a.owner.space → b.owner.worker ≡ a.owner.worker → b.outs ≡ a.outs → b.ins ≡ a.ins
      → IsSameWorker a b
  still a b space number outs ins = record {
    space = space;
    number = number;
    outs = subst (AreSameOuts a.outs) (sym outs) (outs_same a.outs);
    ins = subst (AreSameIns a.ins) (sym ins) (ins_same a.ins);
  }

  pub same_worker : (a b : WorkerOf S F) → b ≡ a → IsSameWorker a b
  same_worker a b e = still a b (ap (λ (w : WorkerOf S F). w.owner.space) e) (ap (λ (w : WorkerOf S F). w.owner.worker) e)
      (ap (λ (w : WorkerOf S F). w.outs) e) (ap (λ (w : WorkerOf S F). w.ins) e)

  module _ (owner : S → List ℕ → ℕ → ℕ) (values : List ℕ → F → List ℕ) where
    receive_same : (from : ℕ) (a b : WorkerOf S F) → ReceivesFrom owner values from a b → IsSameWorker a b
    receive_same from a b has = ⊎_elim
        (λ (t : HasTaken owner values from a b). record {
          space = ap (λ (o : OwnerOf S). o.space) t.others;
          number = ap (λ (o : OwnerOf S). o.worker) t.others;
          outs = subst (AreSameOuts a.outs) (sym (ap (λ (w : WorkerOf S F). w.outs) t.worker)) (outs_same a.outs);
          ins = t.popped.ends;
        })
        (λ (t : HasNothingTaken values from a b). record {
          space = ap (λ (w : WorkerOf S F). w.owner.space) t.worker;
          number = ap (λ (w : WorkerOf S F). w.owner.worker) t.worker;
          outs = subst (AreSameOuts a.outs) (sym (ap (λ (w : WorkerOf S F). w.outs) t.worker)) (outs_same a.outs);
          ins = t.ends;
        })
        has

    pub receives_same : (k : ℕ) (a b : WorkerOf S F) → chained (ReceivesFrom owner values) k a b → IsSameWorker a b
    receives_same zero a b e = same_worker a b e
    receives_same (suc k) a b (m, before, step) = same_through a m b (receives_same k a m before) (receive_same k m b step)

    expansion_keeps : (bound : Distance) (o p : OwnerOf S) (posted : Option ℕ) → IsExpansion owner bound o p posted
        → (p.space ≡ o.space) × (p.worker ≡ o.worker)
    expansion_keeps bound o p None e = (ap (λ (q : OwnerOf S). q.space) e.1, ap (λ (q : OwnerOf S). q.worker) e.1)
    expansion_keeps bound o p (Some n) e = (e.space, e.worker)

  -- the expansion of a turn, or none
  expands_same : (owner : S → List ℕ → ℕ → ℕ) (values : List ℕ → F → List ℕ) (a b : WorkerOf S F) (posted : Option ℕ) (waits : Bool)
      → ExpandsUnless owner a b posted waits → IsSameWorker a b
  expands_same owner values a b posted true e = same_worker a b e.0
  expands_same owner values a b posted false e =
      let kept = expansion_keeps owner values a.bound a.owner b.owner posted e.expansion in
      subst (IsSameWorker a) (sym e.worker) (still _ _ kept.0 kept.1 refl refl)

  send_same : (values : List ℕ → F → List ℕ) (to : ℕ) (a b : WorkerOf S F) → SendsTo values to a b → IsSameWorker a b
  send_same values to a b has = ⊎_elim
      (λ (t : HasSent values to a b). record {
        space = ap (λ (w : WorkerOf S F). w.owner.space) t.worker;
        number = ap (λ (w : WorkerOf S F). w.owner.worker) t.worker;
        outs = t.ends;
        ins = subst (AreSameIns a.ins) (sym (ap (λ (w : WorkerOf S F). w.ins) t.worker)) (ins_same a.ins);
      })
      (λ (t : HasNotSent values to a b). record {
        space = ap (λ (w : WorkerOf S F). w.owner.space) t.worker;
        number = ap (λ (w : WorkerOf S F). w.owner.worker) t.worker;
        outs = t.ends;
        ins = subst (AreSameIns a.ins) (sym (ap (λ (w : WorkerOf S F). w.ins) t.worker)) (ins_same a.ins);
      })
      has

  pub sends_same : (values : List ℕ → F → List ℕ) (k : ℕ) (a b : WorkerOf S F) → chained (SendsTo values) k a b → IsSameWorker a b
  sends_same values zero a b e = same_worker a b e
  sends_same values (suc k) a b (m, before, step) = same_through a m b (sends_same values k a m before) (send_same values k m b step)

  -- one step that leaves all of it as it is, told by what it makes of the worker
  pub changed : (a b c : WorkerOf S F) → b ≡ c → IsSameWorker a c → IsSameWorker a b
  changed a b c e same = subst (IsSameWorker a) (sym e) same

  pub turned_same : (owner : S → List ℕ → ℕ → ℕ) (values : List ℕ → F → List ℕ) (old new : WorkerOf S F) (u v : View) → HasTurned owner values old new u v → IsSameWorker old new
  turned_same owner values old new u v t =
      same_through old t.received new (receives_same owner values (length old.ins) old t.received t.receives)
      (same_through t.received t.looked new (changed _ _ _ t.looks.worker (still _ _ refl refl refl refl))
      (same_through t.looked t.expanded new
      (expands_same owner values t.looked t.expanded t.posted (is_congested t.looked.owner.outboxes) t.expands)
      (same_through t.expanded t.added new (changed _ _ _ t.adds.worker (still _ _ refl refl refl refl))
      (same_through t.added t.offered new (changed _ _ _ t.offers.worker (still _ _ refl refl refl refl))
      (same_through t.offered t.sent new (sends_same values (length t.offered.outs) t.offered t.sent t.sends)
      (changed _ _ _ t.counts.worker (still _ _ refl refl refl refl)))))))

  -- ---- what was read and offered, and what stands aside
  pub record KeepsBounds (a b : WorkerOf S F) : Type 0 where
    pub bound : b.bound ≡ a.bound
    pub seen : b.seen ≡ a.seen
    pub offered : b.offered ≡ a.offered
    pub misfits : b.misfits ≡ a.misfits

  bounds_of : (a b c : WorkerOf S F) → b ≡ c → KeepsBounds a c → KeepsBounds a b
  bounds_of a b c e keeps = subst (KeepsBounds a) (sym e) keeps

  bounds_through : (a b c : WorkerOf S F) → KeepsBounds a b → KeepsBounds b c → KeepsBounds a c
  bounds_through a b c p q = record {
    bound = q.bound ∙ p.bound;
    seen = q.seen ∙ p.seen;
    offered = q.offered ∙ p.offered;
    misfits = q.misfits ∙ p.misfits;
  }

  module _ (owner : S → List ℕ → ℕ → ℕ) (values : List ℕ → F → List ℕ) where
    receive_bounds : (from : ℕ) (a b : WorkerOf S F) → ReceivesFrom owner values from a b → KeepsBounds a b
    receive_bounds from a b has = ⊎_elim
        (λ (t : HasTaken owner values from a b). bounds_of a b _ t.worker (record { bound = refl; seen = refl; offered = refl; misfits = refl }))
        (λ (t : HasNothingTaken values from a b). bounds_of a b _ t.worker (record { bound = refl; seen = refl; offered = refl; misfits = refl }))
        has

    pub receives_bounds : (k : ℕ) (a b : WorkerOf S F) → chained (ReceivesFrom owner values) k a b → KeepsBounds a b
    receives_bounds zero a b e = bounds_of a b a e (record { bound = refl; seen = refl; offered = refl; misfits = refl })
    receives_bounds (suc k) a b (m, before, step) = bounds_through a m b (receives_bounds k a m before) (receive_bounds k m b step)

  expands_bounds : (owner : S → List ℕ → ℕ → ℕ) (a b : WorkerOf S F) (posted : Option ℕ) (waits : Bool)
      → ExpandsUnless owner a b posted waits → KeepsBounds a b
  expands_bounds owner a b posted true e = bounds_of a b a e.0 (record { bound = refl; seen = refl; offered = refl; misfits = refl })
  expands_bounds owner a b posted false e = record {
    bound = ap (λ (w : WorkerOf S F). w.bound) e.worker;
    seen = ap (λ (w : WorkerOf S F). w.seen) e.worker;
    offered = ap (λ (w : WorkerOf S F). w.offered) e.worker;
    misfits = ap (λ (w : WorkerOf S F). w.misfits) e.worker;
  }

  send_bounds : (values : List ℕ → F → List ℕ) (to : ℕ) (a b : WorkerOf S F) → SendsTo values to a b → KeepsBounds a b
  send_bounds values to a b has = ⊎_elim
      (λ (t : HasSent values to a b). bounds_of a b _ t.worker (record { bound = refl; seen = refl; offered = refl; misfits = refl }))
      (λ (t : HasNotSent values to a b). bounds_of a b _ t.worker (record { bound = refl; seen = refl; offered = refl; misfits = refl }))
      has

  pub sends_bounds : (values : List ℕ → F → List ℕ) (k : ℕ) (a b : WorkerOf S F) → chained (SendsTo values) k a b → KeepsBounds a b
  sends_bounds values zero a b e = bounds_of a b a e (record { bound = refl; seen = refl; offered = refl; misfits = refl })
  sends_bounds values (suc k) a b (m, before, step) = bounds_through a m b (sends_bounds values k a m before) (send_bounds values k m b step)

  pub turned_seated : (owner : S → List ℕ → ℕ → ℕ) (values : List ℕ → F → List ℕ) (old new : WorkerOf S F) (u v : View) → HasTurned owner values old new u v → IsSeated old new u v
  turned_seated owner values old new u v t =
      let r : KeepsBounds old t.received = receives_bounds owner values (length old.ins) old t.received t.receives in
      let s : KeepsBounds t.offered t.sent = sends_bounds values (length t.offered.outs) t.offered t.sent t.sends in
      let e : KeepsBounds t.looked t.expanded = expands_bounds owner t.looked t.expanded t.posted (is_congested t.looked.owner.outboxes) t.expands in
      let w_seen = λ (w : WorkerOf S F). w.seen in
      let w_offered = λ (w : WorkerOf S F). w.offered in
      let v_seen = λ (x : View). x.seen in
      let v_offered = λ (x : View). x.offered in
      let v_parts = λ (x : View). x.parts in
      record {
        seen_since = t.looked.bound;
        offered_since = t.added.owner.best;
        seen = ap w_seen t.counts.worker ∙ (s.seen ∙ (ap w_seen t.offers.worker ∙ (ap w_seen t.adds.worker ∙ (e.seen
            ∙ (ap w_seen t.looks.worker ∙ ap (λ d. lesser d t.looked.bound) r.seen)))));
        offered = ap w_offered t.counts.worker ∙ (s.offered ∙ (ap w_offered t.offers.worker ∙ ap (λ d. lesser d t.added.owner.best)
            (ap w_offered t.adds.worker ∙ (e.offered ∙ (ap w_offered t.looks.worker ∙ r.offered)))));
        view_seen = ap v_seen t.counts.view ∙ (ap v_seen t.offers.view ∙ (ap v_seen t.adds.view ∙ (ap v_seen t.looks.view
            ∙ sym (lesser_right u.seen t.looked.bound t.looks.falls.0))));
        view_offered = ap v_offered t.counts.view ∙ (ap v_offered t.offers.view ∙ ap (λ d. lesser d t.added.owner.best)
            (ap v_offered t.adds.view ∙ ap v_offered t.looks.view));
        parts = ap v_parts t.counts.view ∙ (ap v_parts t.offers.view ∙ (ap v_parts t.adds.view ∙ ap v_parts t.looks.view));
      }

  -- ---- turns that end before that
  pub stopped_same : (owner : S → List ℕ → ℕ → ℕ) (values : List ℕ → F → List ℕ) (old new : WorkerOf S F) → HasStopped owner values old new → IsSameWorker old new
  stopped_same owner values old new t = same_through old t.received new (receives_same owner values t.from old t.received t.receives)
      (record {
        space = ap (λ (w : WorkerOf S F). w.owner.space) t.aside.worker;
        number = ap (λ (w : WorkerOf S F). w.owner.worker) t.aside.worker;
        outs = subst (AreSameOuts t.received.outs) (sym (ap (λ (w : WorkerOf S F). w.outs) t.aside.worker)) (outs_same t.received.outs);
        ins = t.aside.popped.ends;
      })

  -- nothing was read or offered
  seated_by : (a b : WorkerOf S F) (u v : View) → b.seen ≡ a.seen → b.offered ≡ a.offered → v ≡ u → IsSeated a b u v
  seated_by a b u v same_seen same_offered view = record {
    seen_since = Infinite;
    offered_since = Infinite;
    seen = same_seen ∙ sym (lesser_left a.seen Infinite (at_most_infinite a.seen));
    offered = same_offered ∙ sym (lesser_left a.offered Infinite (at_most_infinite a.offered));
    view_seen = ap (λ (x : View). x.seen) view ∙ sym (lesser_left u.seen Infinite (at_most_infinite u.seen));
    view_offered = ap (λ (x : View). x.offered) view ∙ sym (lesser_left u.offered Infinite (at_most_infinite u.offered));
    parts = ap (λ (x : View). x.parts) view;
  }

  pub stopped_seated : (owner : S → List ℕ → ℕ → ℕ) (values : List ℕ → F → List ℕ) (old new : WorkerOf S F) (u v : View) → HasStopped owner values old new → v ≡ u → IsSeated old new u v
  stopped_seated owner values old new u v t view =
      let r : KeepsBounds old t.received = receives_bounds owner values t.from old t.received t.receives in
      seated_by old new u v
      (ap (λ (w : WorkerOf S F). w.seen) t.aside.worker ∙ r.seen) (ap (λ (w : WorkerOf S F). w.offered) t.aside.worker ∙ r.offered) view

  pub refused_same : (owner : S → List ℕ → ℕ → ℕ) (values : List ℕ → F → List ℕ) (fault : OwnerFault) (old new : WorkerOf S F) (u v : View)
      → HasRefused owner values fault old new u v → IsSameWorker old new
  refused_same owner values fault old new u v t = same_through old t.received new (receives_same owner values (length old.ins) old t.received t.receives)
      (changed _ _ _ t.looks.worker (still _ _ refl refl refl refl))

  pub refused_seated : (owner : S → List ℕ → ℕ → ℕ) (values : List ℕ → F → List ℕ) (fault : OwnerFault) (old new : WorkerOf S F) (u v : View)
      → HasRefused owner values fault old new u v → IsSeated old new u v
  refused_seated owner values fault old new u v t =
      let r : KeepsBounds old t.received = receives_bounds owner values (length old.ins) old t.received t.receives in
      record {
        seen_since = new.bound;
        offered_since = Infinite;
        seen = ap (λ (w : WorkerOf S F). w.seen) t.looks.worker ∙ ap (λ d. lesser d new.bound) r.seen;
        offered = (ap (λ (w : WorkerOf S F). w.offered) t.looks.worker ∙ r.offered) ∙ sym (lesser_left old.offered Infinite (at_most_infinite old.offered));
        view_seen = ap (λ (x : View). x.seen) t.looks.view ∙ sym (lesser_right u.seen new.bound t.looks.falls.0);
        view_offered = ap (λ (x : View). x.offered) t.looks.view ∙ sym (lesser_left u.offered Infinite (at_most_infinite u.offered));
        parts = ap (λ (x : View). x.parts) t.looks.view;
      }

  -- the bound is read, and nothing else is done
  looked_same : (old new : WorkerOf S F) (u v : View) → HasLooked old new u v → IsSameWorker old new
  looked_same old new u v looks = changed _ _ _ looks.worker (still _ _ refl refl refl refl)

  looked_seated : (old new : WorkerOf S F) (u v : View) → HasLooked old new u v → IsSeated old new u v
  looked_seated old new u v looks = record {
    seen_since = new.bound;
    offered_since = Infinite;
    seen = ap (λ (w : WorkerOf S F). w.seen) looks.worker;
    offered = ap (λ (w : WorkerOf S F). w.offered) looks.worker ∙ sym (lesser_left old.offered Infinite (at_most_infinite old.offered));
    view_seen = ap (λ (x : View). x.seen) looks.view ∙ sym (lesser_right u.seen new.bound looks.falls.0);
    view_offered = ap (λ (x : View). x.offered) looks.view ∙ sym (lesser_left u.offered Infinite (at_most_infinite u.offered));
    parts = ap (λ (x : View). x.parts) looks.view;
  }

  -- ---- one turn after another
  pub seated_through : (a b c : WorkerOf S F) (u v w : View) → IsSeated a b u v → IsSeated b c v w → IsSeated a c u w
  seated_through a b c u v w ab bc = record {
    seen_since = lesser ab.seen_since bc.seen_since;
    offered_since = lesser ab.offered_since bc.offered_since;
    seen = lesser_more a.seen b.seen c.seen ab.seen_since bc.seen_since ab.seen bc.seen;
    offered = lesser_more a.offered b.offered c.offered ab.offered_since bc.offered_since ab.offered bc.offered;
    view_seen = lesser_more u.seen v.seen w.seen ab.seen_since bc.seen_since ab.view_seen bc.view_seen;
    view_offered = lesser_more u.offered v.offered w.offered ab.offered_since bc.offered_since ab.view_offered bc.view_offered;
    parts = bc.parts ∙ ab.parts;
  }

  -- ---- a worker in the middle of a round
  pub at_start : (b : Board) (s : BoardSeat) (old w : WorkerOf S F) → IsSeatOf b s → old.misfits ≡ []
      → w ≡ record old { resting = false; uncounted = 0; taken = 0 } → IsAtWork b s old s w
  at_start b s old w seat none e = record {
    seat = seat;
    same = changed old w _ e (still _ _ refl refl refl refl);
    seated = seated_by old w (view s) (view s) (ap (λ (x : WorkerOf S F). x.seen) e) (ap (λ (x : WorkerOf S F). x.offered) e) refl;
    uncounted = ap (λ (x : WorkerOf S F). x.uncounted) e;
    taken = ap (λ (x : WorkerOf S F). x.taken) e;
    misfits = ap (λ (x : WorkerOf S F). x.misfits) e ∙ none;
  }

  pub relaying : (b : Board) (s : BoardSeat) (old : WorkerOf S F) (t : BoardSeat) (w : WorkerOf S F) → IsAtWork b s old t w → IsRelaying b s old t w
  relaying b s old t w is = record { seat = is.seat; same = is.same; seated = is.seated; uncounted = is.uncounted; misfits = is.misfits }

  module _ (owner : S → List ℕ → ℕ → ℕ) (values : List ℕ → F → List ℕ) (may_stop : MayStop) (b : Board) (s : BoardSeat) (old : WorkerOf S F) where
    turned_misfits : (w x : WorkerOf S F) (u v : View) → HasTurned owner values w x u v → x.misfits ≡ w.misfits
    turned_misfits w x u v t =
        let r : KeepsBounds w t.received = receives_bounds owner values (length w.ins) w t.received t.receives in
        let q : KeepsBounds t.offered t.sent = sends_bounds values (length t.offered.outs) t.offered t.sent t.sends in
        let e : KeepsBounds t.looked t.expanded = expands_bounds owner t.looked t.expanded t.posted (is_congested t.looked.owner.outboxes) t.expands in
        let m = λ (y : WorkerOf S F). y.misfits in
        ap m t.counts.worker ∙ (q.misfits ∙ (ap m t.offers.worker ∙ (ap m t.adds.worker ∙ (e.misfits ∙ (ap m t.looks.worker ∙ r.misfits)))))

    turned_bound : (w x : WorkerOf S F) (u v : View) → HasTurned owner values w x u v → x.bound ≤ᵈ u.seen
    turned_bound w x u v t =
        let q : KeepsBounds t.offered t.sent = sends_bounds values (length t.offered.outs) t.offered t.sent t.sends in
        let e : KeepsBounds t.looked t.expanded = expands_bounds owner t.looked t.expanded t.posted (is_congested t.looked.owner.outboxes) t.expands in
        let d = λ (y : WorkerOf S F). y.bound in
        let same : x.bound ≡ t.looked.bound = ap d t.counts.worker ∙ (q.bound ∙ (ap d t.offers.worker ∙ (ap d t.adds.worker ∙ e.bound))) in
        subst (λ y. y ≤ᵈ u.seen) (sym same) t.looks.falls.0

    -- a bound that is at most what the seat has seen so far
    told_from : (w : WorkerOf S F) (u v : View) (d : Distance) → IsSeated old w u v → d ≤ᵈ v.seen → d ≤ᵈ u.seen
    told_from w u v d seated below = at_most_through d (lesser u.seen seated.seen_since) u.seen (subst (λ y. d ≤ᵈ y) seated.view_seen below)
        (lesser_at_most_left u.seen seated.seen_since)

    pub one_turn : (seat t : BoardSeat) (w x : WorkerOf S F) → IsAtWork b s old seat w → IsSeatOf b t → x.uncounted ≡ 0
        → HasTurned owner values w x (view seat) (view t) → IsAtWork b s old t x
    one_turn seat t w x is there uncounted turned = record {
      seat = there;
      same = same_through old w x is.same (turned_same owner values w x (view seat) (view t) turned);
      seated = seated_through old w x (view s) (view seat) (view t) is.seated (turned_seated owner values w x (view seat) (view t) turned);
      uncounted = uncounted;
      taken = ap (λ (y : WorkerOf S F). y.taken) turned.counts.worker;
      misfits = turned_misfits w x (view seat) (view t) turned ∙ is.misfits;
    }

    -- the last turn is a whole one
    pub last_turn : (seat t : BoardSeat) (w x : WorkerOf S F) → IsAtWork b s old seat w → IsSeatOf b t → x.uncounted ≡ 0
        → HasTurned owner values w x (view seat) (view t) → HasWorked owner values may_stop b s old (record { worker = x; seat = t; fault = None })
    last_turn seat t w x is there uncounted turned =
        let now = one_turn seat t w x is there uncounted turned in
        record {
          seat = there;
          kept = λ _. record {
            same = now.same;
            seated = now.seated;
            told = λ _. told_from w (view s) (view seat) x.bound is.seated (turned_bound w x (view seat) (view t) turned);
            uncounted = uncounted;
          };
          ended = (w, view seat, view t, inl turned);
        }

    -- the last turn ends with a message that does not fit
    pub stopped_turn : (seat t : BoardSeat) (w x : WorkerOf S F) → IsRelaying b s old seat w → IsSeatOf b t → x.uncounted ≡ 0
        → view t ≡ view seat → HasStopped owner values w x → HasWorked owner values may_stop b s old (record { worker = x; seat = t; fault = None })
    stopped_turn seat t w x is there uncounted view_is stopped = record {
      seat = there;
      kept = λ _. record {
        same = same_through old w x is.same (stopped_same owner values w x stopped);
        seated = seated_through old w x (view s) (view seat) (view t) is.seated (stopped_seated owner values w x (view seat) (view t) stopped view_is);
        told = λ none. absurd (aside_there (sym none ∙ ap (λ (y : WorkerOf S F). y.misfits) stopped.aside.worker));
        uncounted = uncounted;
      };
      ended = (w, view seat, view t, inr stopped);
    }
      where
        aside_there : {X : Type 0} {y : X} {ys : List X} → [] ≡ y ∷ ys → ⊥
        aside_there e = cc

    -- the last turn is refused
    refused_keeps : (fault : OwnerFault) (seat t : BoardSeat) (w x : WorkerOf S F) → IsAtWork b s old seat w → x.uncounted ≡ 0
        → HasRefused owner values fault w x (view seat) (view t) → HasKept old x (view s) (view t)
    refused_keeps fault seat t w x is uncounted refused = record {
      same = same_through old w x is.same (refused_same owner values fault w x (view seat) (view t) refused);
      seated = seated_through old w x (view s) (view seat) (view t) is.seated (refused_seated owner values fault w x (view seat) (view t) refused);
      told = λ _. told_from w (view s) (view seat) x.bound is.seated refused.looks.falls.0;
      uncounted = uncounted;
    }

    -- the gate ends the search: the bound is read, and no turn is taken
    gated_keeps : (seat t : BoardSeat) (w x : WorkerOf S F) → IsAtWork b s old seat w → x.uncounted ≡ 0
        → HasLooked w x (view seat) (view t) → HasKept old x (view s) (view t)
    gated_keeps seat t w x is uncounted looks = record {
      same = same_through old w x is.same (looked_same w x (view seat) (view t) looks);
      seated = seated_through old w x (view s) (view seat) (view t) is.seated (looked_seated w x (view seat) (view t) looks);
      told = λ _. told_from w (view s) (view seat) x.bound is.seated looks.falls.0;
      uncounted = uncounted;
    }

    -- the round is ended for all after that
    pub refused_turn : (fault : TurnFault) (seat t : BoardSeat) (v : View) (w x : WorkerOf S F) → IsAtWork b s old seat w → IsSeatOf b t
        → x.uncounted ≡ 0 → view t ≡ v → IsTurnFault owner values may_stop w x (view seat) v fault
        → HasWorked owner values may_stop b s old (record { worker = x; seat = t; fault = Some fault })
    refused_turn (Owner OutOfMemory) seat t v w x is there uncounted view_is refusal =
        record { seat = there; kept = λ other. absurd (other refl); ended = tt }
    refused_turn (Owner LimitReached) seat t v w x is there uncounted view_is refusal = record {
      seat = there;
      kept = λ _. refused_keeps LimitReached seat t w x is uncounted (subst (HasRefused owner values LimitReached w x (view seat)) (sym view_is) refusal);
      ended = refusal.refusal;
    }
    refused_turn (Owner TotalTooLarge) seat t v w x is there uncounted view_is refusal = record {
      seat = there;
      kept = λ _. refused_keeps TotalTooLarge seat t w x is uncounted (subst (HasRefused owner values TotalTooLarge w x (view seat)) (sym view_is) refusal);
      ended = refusal.refusal;
    }
    refused_turn (Gate turn stop) seat t v w x is there uncounted view_is refusal = record {
      seat = there;
      kept = λ _. gated_keeps seat t w x is uncounted (subst (HasLooked w x (view seat)) (sym view_is) refusal.1);
      ended = subst (λ n. may_stop n turn stop) (sym (ap (λ (y : WorkerOf S F). y.owner.worker) refusal.1.worker)) refusal.0;
    }

    -- the turns from then on end so
    pub worked_since : (seat : BoardSeat) (w : WorkerOf S F) (r : WorkedOf S F) → IsAtWork b s old seat w → HasWorked owner values may_stop b seat w r
        → HasWorked owner values may_stop b s old r
    worked_since seat w r is has = record {
      seat = has.seat;
      kept = λ other.
          let now : HasKept w r.worker (view seat) (view r.seat) = has.kept other in
          record {
            same = same_through old w r.worker is.same now.same;
            seated = seated_through old w r.worker (view s) (view seat) (view r.seat) is.seated now.seated;
            told = λ none. told_from w (view s) (view seat) r.worker.bound is.seated (now.told none);
            uncounted = now.uncounted;
          };
      ended = has.ended;
    }
