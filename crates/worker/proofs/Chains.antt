-- Steps one after the other, one for each link.
use Rattle.std.proofs.Common.{◌≡◌, ℕ, zero, suc, ◌+◌, ◌≤◌, inl, inr, ⊎_elim, Bool, true, false, List, Option, length, refl, sym, ap, ◌∙◌, subst, add-one, arith, pos, ◌+ℤ◌, ◌-ℤ◌}
use Rattle.std.proofs.lemmas.Int.{ints}
use Rattle.cost.specs.Distances.{lesser}
use Rattle.board.specs.declared.views.View.{View}
use Rattle.board.specs.Rule.{with_offered, with_share}
use Rattle.owner.specs.declared.fault.OwnerFault.{OwnerFault}
use Rattle.owner.specs.declared.fault.OwnerFault.TheVariants.{OutOfMemory, TotalTooLarge, LimitReached}
use Rattle.owner.specs.Owned.{IsRefusal}
use Rattle.worker.specs.declared.outcome.Received.{Received}
use Rattle.worker.specs.declared.outcome.Received.TheVariants.{Taken, Nothing, SetAside}
use Rattle.worker.specs.declared.outcome.Turn.{Turn}
use Rattle.worker.specs.declared.outcome.Turn.TheVariants.{Next, Last, Misfit}
use Rattle.worker.specs.Workers.{WorkerOf}
use Rattle.worker.specs.Turns.{chained, HasReceived, ReceivesFrom, SendsOrNot, SendsTo, HasTaken, HasNothingTaken, HasSent, HasNotSent, HasLooked, HasExpanded, ExpandsUnless, IsExpandRefusal, is_congested, HasOffered, HasCounted, HasTurned, HasStopped, HasHeldBack, HasRefused, IsTurn, IsTurnRefusal, wakes, comes_to_rest, one_if}
use Rattle.worker.specs.Counts.{HasBalanced, HasRested}

pub one_more : {W : Type 0} (R : ℕ → W → W → Type 0) (k : ℕ) (a b c : W) → chained R k a b → R k b c → chained R (k + 1) a c
one_more R k a b c before step = subst (λ n. chained R n a c) (sym (add-one k)) (b, before, step)

-- what receiving leaves as it is
pub record KeepsReceiving {S F : Type 0} (a b : WorkerOf S F) (count : ℕ) : Type 0 where
  pub misfits : b.misfits ≡ a.misfits
  pub ins : length b.ins ≡ length a.ins
  pub uncounted : b.uncounted ≡ a.uncounted
  pub taken : b.taken ≤ a.taken + count

-- what sending leaves as it is
pub record KeepsSending {S F : Type 0} (a b : WorkerOf S F) : Type 0 where
  pub outs : length b.outs ≡ length a.outs
  pub uncounted : b.uncounted ≡ a.uncounted
  pub taken : b.taken ≡ a.taken
  pub wakes : wakes b ≡ wakes a

module _ {S F : Type 0} (owner : S → List ℕ → ℕ → ℕ) (values : List ℕ → F → List ℕ) where
  pub was_received : (from : ℕ) (a b : WorkerOf S F) (r : Received) → (r ≡ SetAside → ⊥) → HasReceived owner values from a b r → ReceivesFrom owner values from a b
  was_received from a b Taken other has = inl has
  was_received from a b Nothing other has = inr has
  was_received from a b SetAside other has = absurd (other refl)

  receive_keeps : (from : ℕ) (a b : WorkerOf S F) → ReceivesFrom owner values from a b → KeepsReceiving a b 1
  receive_keeps from a b has = ⊎_elim
      (λ (t : HasTaken owner values from a b). record {
        misfits = ap (λ (w : WorkerOf S F). w.misfits) t.worker;
        ins = t.popped.ends.len;
        uncounted = ap (λ (w : WorkerOf S F). w.uncounted) t.worker;
        taken = let e : b.taken ≡ suc a.taken = ap (λ (w : WorkerOf S F). w.taken) t.worker in omega (arith, e);
      })
      (λ (t : HasNothingTaken values from a b). record {
        misfits = ap (λ (w : WorkerOf S F). w.misfits) t.worker;
        ins = t.ends.len;
        uncounted = ap (λ (w : WorkerOf S F). w.uncounted) t.worker;
        taken = let e : b.taken ≡ a.taken = ap (λ (w : WorkerOf S F). w.taken) t.worker in omega (arith, e);
      })
      has

  pub receives_keep : (k : ℕ) (a b : WorkerOf S F) → chained (ReceivesFrom owner values) k a b → KeepsReceiving a b k
  receives_keep zero a b same = record {
    misfits = ap (λ (w : WorkerOf S F). w.misfits) same;
    ins = ap (λ (w : WorkerOf S F). length w.ins) same;
    uncounted = ap (λ (w : WorkerOf S F). w.uncounted) same;
    taken = let e : b.taken ≡ a.taken = ap (λ (w : WorkerOf S F). w.taken) same in omega (arith, e);
  }
  receives_keep (suc k) a b (m, before, step) =
      let p : KeepsReceiving a m k = receives_keep k a m before in
      let q : KeepsReceiving m b 1 = receive_keeps k m b step in
      record {
        misfits = q.misfits ∙ p.misfits;
        ins = q.ins ∙ p.ins;
        uncounted = q.uncounted ∙ p.uncounted;
        taken = omega (arith, p.taken, q.taken);
      }

  pub stopped_uncounted : (a b : WorkerOf S F) → HasStopped owner values a b → b.uncounted ≡ a.uncounted
  stopped_uncounted a b s =
      ap (λ (w : WorkerOf S F). w.uncounted) s.aside.worker ∙ (receives_keep s.from a s.received s.receives).uncounted

  pub held_uncounted : (a b : WorkerOf S F) → HasHeldBack owner values a b → b.uncounted ≡ a.uncounted
  held_uncounted a b h = ap (λ (w : WorkerOf S F). w.uncounted) h.held.worker ∙ (receives_keep h.from a h.received h.receives).uncounted

module _ {S F : Type 0} (values : List ℕ → F → List ℕ) where
  pub was_sent : (to : ℕ) (a b : WorkerOf S F) (r : Bool) → SendsOrNot values to a b r → SendsTo values to a b
  was_sent to a b true has = inl has
  was_sent to a b false has = inr has

  send_keeps : (to : ℕ) (a b : WorkerOf S F) → SendsTo values to a b → KeepsSending a b
  send_keeps to a b has = ⊎_elim
      (λ (t : HasSent values to a b). record {
        outs = t.ends.len;
        uncounted = ap (λ (w : WorkerOf S F). w.uncounted) t.worker;
        taken = ap (λ (w : WorkerOf S F). w.taken) t.worker;
        wakes = ap (λ (w : WorkerOf S F). wakes w) t.worker;
      })
      (λ (t : HasNotSent values to a b). record {
        outs = t.ends.len;
        uncounted = ap (λ (w : WorkerOf S F). w.uncounted) t.worker;
        taken = ap (λ (w : WorkerOf S F). w.taken) t.worker;
        wakes = ap (λ (w : WorkerOf S F). wakes w) t.worker;
      })
      has

  pub sends_keep : (k : ℕ) (a b : WorkerOf S F) → chained (SendsTo values) k a b → KeepsSending a b
  sends_keep zero a b same = record {
    outs = ap (λ (w : WorkerOf S F). length w.outs) same;
    uncounted = ap (λ (w : WorkerOf S F). w.uncounted) same;
    taken = ap (λ (w : WorkerOf S F). w.taken) same;
    wakes = ap (λ (w : WorkerOf S F). wakes w) same;
  }
  sends_keep (suc k) a b (m, before, step) =
      let p : KeepsSending a m = sends_keep k a m before in
      let q : KeepsSending m b = send_keeps k m b step in
      record { outs = q.outs ∙ p.outs; uncounted = q.uncounted ∙ p.uncounted; taken = q.taken ∙ p.taken; wakes = q.wakes ∙ p.wakes }

-- ---- a turn
module _ {S F : Type 0} (owner : S → List ℕ → ℕ → ℕ) (values : List ℕ → F → List ℕ) where
  pub as_turn : (old new : WorkerOf S F) (u v : View) (t : Turn) → (t ≡ Misfit → ⊥) → HasTurned owner values old new u v → IsTurn owner values old new u v t
  as_turn old new u v Next other turned = turned
  as_turn old new u v Last other turned = turned
  as_turn old new u v Misfit other turned = absurd (other refl)

  -- once the messages in outboxes are added, none is uncounted
  pub balanced_uncounted : (expanded added offered sent new : WorkerOf S F) (u v x y : View) → HasBalanced expanded added u v
      → HasOffered added offered v x → chained (SendsTo values) (length offered.outs) offered sent → HasRested owner sent new x y → new.uncounted ≡ 0
  balanced_uncounted expanded added offered sent new u v x y balances offers sends rests =
      ap (λ (w : WorkerOf S F). w.uncounted) rests.worker
      ∙ ((sends_keep values (length offered.outs) offered sent sends).uncounted
      ∙ (ap (λ (w : WorkerOf S F). w.uncounted) offers.worker ∙ ap (λ (w : WorkerOf S F). w.uncounted) balances.worker))

  -- to add what was posted and to subtract what was taken at once, and to rest at the end, is to add, and to count all the rest at the end
  counted_at_once : (added offered sent new : WorkerOf S F) (expanded : WorkerOf S F) (v x y z : View) → HasBalanced expanded added v x → HasOffered added offered x y
      → chained (SendsTo values) (length offered.outs) offered sent → HasRested owner sent new y z
      → let before : View = with_share v (v.share +ℤ pos expanded.uncounted) in
      HasCounted owner sent new (with_offered before (lesser before.offered added.owner.best)) z
  counted_at_once added offered sent new expanded v x y z balances offers sends rests =
      let kept = sends_keep values (length offered.outs) offered sent sends in
      let taken : sent.taken ≡ expanded.taken = kept.taken ∙ (ap (λ (w : WorkerOf S F). w.taken) offers.worker ∙ ap (λ (w : WorkerOf S F). w.taken) balances.worker) in
      let woken : one_if (wakes sent) ≡ one_if (wakes expanded) = ap one_if (kept.wakes ∙ (ap (λ (w : WorkerOf S F). wakes w) offers.worker ∙ ap (λ (w : WorkerOf S F). wakes w) balances.worker)) in
      let before : View = with_share v (v.share +ℤ pos expanded.uncounted) in
      record {
        view = rests.view
            ∙ (ap (λ (w : View). with_share w (w.share -ℤ pos (one_if (comes_to_rest owner sent)))) offers.view
            ∙ (ap (λ (w : View). with_share (with_offered w (lesser w.offered added.owner.best)) (w.share -ℤ pos (one_if (comes_to_rest owner sent)))) balances.view
            ∙ ap (with_share (with_offered before (lesser before.offered added.owner.best))) (omega (arith, ints, taken, woken))));
        worker = rests.worker;
      }

  pub turned : (old received looked expanded added offered sent new : WorkerOf S F) (posted : Option ℕ) (u v x y z : View)
      → chained (ReceivesFrom owner values) (length old.ins) old received → HasLooked received looked u v
      → ExpandsUnless owner looked expanded posted (is_congested looked.owner.outboxes)
      → HasBalanced expanded added v x → HasOffered added offered x y → chained (SendsTo values) (length offered.outs) offered sent → HasRested owner sent new y z
      → HasTurned owner values old new u z
  turned old received looked expanded added offered sent new posted u v x y z receives looks expands balances offers sends rests =
      let before : View = with_share v (v.share +ℤ pos expanded.uncounted) in
      record {
        received = received;
        receives = receives;
        looked = looked;
        view_looked = v;
        looks = looks;
        expanded = expanded;
        posted = posted;
        expands = expands;
        added = added;
        view_added = before;
        adds = record { view = refl; worker = balances.worker };
        offered = offered;
        view_offered = with_offered before (lesser before.offered added.owner.best);
        offers = record { view = refl; worker = offers.worker };
        sent = sent;
        sends = sends;
        counts = counted_at_once added offered sent new expanded v x y z balances offers sends rests;
      }

  -- the owner refused to expand
  pub refused_uncounted : (old new : WorkerOf S F) (fault : OwnerFault) → IsExpandRefusal owner old new fault → new.uncounted ≡ old.uncounted
  refused_uncounted old new fault e = ap (λ (w : WorkerOf S F). w.uncounted) e.1

  -- nothing was done after the bound was read
  refused_after : (old received looked new : WorkerOf S F) (u v : View) (fault : OwnerFault)
      → chained (ReceivesFrom owner values) (length old.ins) old received → HasLooked received looked u v
      → is_congested looked.owner.outboxes ≡ false → IsRefusal owner looked.bound looked.owner new.owner fault → new ≡ looked
      → HasRefused owner values fault old new u v
  refused_after old received looked new u v fault receives looks uncongested refusal same = record {
    received = received;
    receives = receives;
    looks = subst (λ (w : WorkerOf S F). HasLooked received w u v) (sym same) looks;
    uncongested = ap (λ (w : WorkerOf S F). is_congested w.owner.outboxes) same ∙ uncongested;
    refusal = subst (λ (w : WorkerOf S F). IsRefusal owner w.bound w.owner new.owner fault) (sym same) refusal;
  }

  pub refused_turn : (old received looked new : WorkerOf S F) (u v : View) (fault : OwnerFault)
      → chained (ReceivesFrom owner values) (length old.ins) old received → HasLooked received looked u v
      → is_congested looked.owner.outboxes ≡ false → IsExpandRefusal owner looked new fault → IsTurnRefusal owner values old new u v fault
  refused_turn old received looked new u v OutOfMemory receives looks uncongested e =
      inr (refused_after old received looked new u v OutOfMemory receives looks uncongested e.0 e.1)
  refused_turn old received looked new u v LimitReached receives looks uncongested e =
      refused_after old received looked new u v LimitReached receives looks uncongested e.0 e.1
  refused_turn old received looked new u v TotalTooLarge receives looks uncongested e =
      refused_after old received looked new u v TotalTooLarge receives looks uncongested e.0 e.1

  -- the owner could not take a message
  pub held_turn : (old new : WorkerOf S F) (u : View) (fault : OwnerFault) → fault ≡ OutOfMemory → HasHeldBack owner values old new
      → IsTurnRefusal owner values old new u u fault
  held_turn old new u fault is held = subst (IsTurnRefusal owner values old new u u) (sym is) (inl (held, refl))
