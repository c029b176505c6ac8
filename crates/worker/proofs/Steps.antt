-- What a worker does in one step, from what the calls in it do.
use Rattle.std.proofs.Common.{◌≡◌, ℕ, suc, ◌+◌, ◌<◌, ◌≤◌, Bool, true, false, ◌&&◌, ◌||◌, not, List, [], ◌∷◌, ◌++◌, length, Option, Some, refl, sym, ap, ◌∙◌, zero-add}
use Rattle.std.specs.Prelude.{◌≢◌, slice_get, slice_set}
use Rattle.cost.specs.Distances.{Distance, Infinite, ◌≤ᵈ◌, lesser}
use Rattle.owner_theory.specs.Owners.{Message, Packet, list_at, put, took, fits}
use Rattle.owner_theory.specs.Worlds.{idle}
use Rattle.board.specs.declared.views.View.{View}
use Rattle.board.specs.Rule.{with_seen, with_offered}
use Rattle.links.specs.declared.ends.Out.{Out}
use Rattle.links.specs.declared.ends.In.{In}
use Rattle.links.specs.Ends.{room, known}
use Rattle.owner.specs.declared.fault.OwnerFault.{OwnerFault}
use Rattle.owner.specs.declared.fault.OwnerFault.TheVariants.{OutOfMemory, TotalTooLarge, LimitReached}
use Rattle.owner.specs.Owned.{OwnerOf, space_of, under, IsExpansion, IsRefusal}
use Rattle.worker.specs.Workers.{WorkerOf, values_in, sent_to, received_from, known_from, AreSameOuts, AreSameIns}
use Rattle.worker.specs.Turns.{HasLooked, HasOffered, HasExpanded, IsExpandRefusal, posted_by, HasSent, HasNotSent, HasTaken, HasNothingTaken, HasSetAside, HasHeld, wakes, comes_to_rest}
use Rattle.worker.proofs.Rows.{outs_through, ins_through, ins_same, put_again}

-- a fault leaves the owner as it was
pub refused_same : {S : Type 0} (owner : S → List ℕ → ℕ → ℕ) (bound : Distance) (o p : OwnerOf S) (fault : OwnerFault) → IsRefusal owner bound o p fault → p ≡ o
refused_same owner bound o p OutOfMemory refusal = refusal.2
refused_same owner bound o p LimitReached refusal = refusal.2
refused_same owner bound o p TotalTooLarge refusal = refusal.5

module _ {S F : Type 0} where
  -- ---- looking and offering
  pub looks : (w : WorkerOf S F) (b s : Distance) (u v : View) → s ≡ lesser w.seen b → v ≡ with_seen u b
      → (b ≤ᵈ u.seen) × (b ≤ᵈ u.offered) → HasLooked w (record w { bound = b; seen = s }) u v
  looks w b s u v least view falls = record {
    view = view;
    falls = falls;
    worker = ap (λ x. let after : WorkerOf S F = record w { bound = b; seen = x } in after) least;
  }

  pub offers : (w : WorkerOf S F) (d : Distance) (u v : View) → d ≡ lesser w.offered w.owner.best
      → v ≡ with_offered u (lesser u.offered w.owner.best) → HasOffered w (record w { offered = d }) u v
  offers w d u v least view = record {
    view = view;
    worker = ap (λ x. let after : WorkerOf S F = record w { offered = x } in after) least;
  }

  -- ---- expanding
  pub expands : (owner : S → List ℕ → ℕ → ℕ) (w : WorkerOf S F) (p : OwnerOf S) (misfits : List Packet) (posted : Option ℕ) (n : ℕ) → misfits ≡ w.misfits
      → w.uncounted ≡ 0 → n ≡ posted_by posted → IsExpansion owner w.bound w.owner p posted
      → HasExpanded owner w (record w { owner = p; misfits = misfits; uncounted = n }) posted
  expands owner w p misfits posted n same none count expansion = record {
    expansion = expansion;
    worker = λ j. record w {
      owner = p;
      misfits = same j;
      uncounted = (count ∙ (sym (zero-add (posted_by posted)) ∙ ap (λ x. x + posted_by posted) (sym none))) j;
    };
  }

  pub refuses : (owner : S → List ℕ → ℕ → ℕ) (w : WorkerOf S F) (p : OwnerOf S) (misfits : List Packet) (fault : OwnerFault) → misfits ≡ w.misfits
      → IsRefusal owner w.bound w.owner p fault → IsExpandRefusal owner w (record w { owner = p; misfits = misfits }) fault
  refuses owner w p misfits fault same refusal =
      (refusal, λ j. record w { owner = refused_same owner w.bound w.owner p fault refusal j; misfits = same j })

module _ {S F : Type 0} (values : List ℕ → F → List ℕ) where
  -- ---- sending
  pub sends : (w : WorkerOf S F) (p : OwnerOf S) (misfits : List Packet) (mid outs : List (Out F)) (to : ℕ) (m : Message) → misfits ≡ w.misfits
      → list_at w.owner.outboxes to ≡ m ∷ list_at p.outboxes to
      → p ≡ record w.owner { outboxes = slice_set w.owner.outboxes to (list_at p.outboxes to) }
      → AreSameOuts w.outs mid → ((v : ℕ) → sent_to (values_in values w) mid v ≡ sent_to (values_in values w) w.outs v) → AreSameOuts mid outs
      → ((v : ℕ) → sent_to (values_in values w) outs v ≡ put (sent_to (values_in values w) mid) to (sent_to (values_in values w) mid to ++ m ∷ []) v)
      → HasSent values to w (record w { owner = p; misfits = misfits; outs = outs })
  sends w p misfits mid outs to m same_values first others same kept same_again sent = record {
    message = m;
    outbox = first;
    link = λ v. sent v ∙ (λ j. put (λ u. kept u j) to (kept to j ++ m ∷ []) v);
    ends = outs_through w.outs mid outs same same_again;
    worker = λ j. record w { owner = others j; misfits = same_values j; outs = outs };
  }

  pub sends_none : (w : WorkerOf S F) (p : OwnerOf S) (misfits : List Packet) (outs : List (Out F)) (to : ℕ) → misfits ≡ w.misfits → p ≡ w.owner
      → ((o : Out F) → slice_get w.outs to ≡ Some o → 0 < room o → list_at w.owner.outboxes to ≡ []) → AreSameOuts w.outs outs
      → ((v : ℕ) → sent_to (values_in values w) outs v ≡ sent_to (values_in values w) w.outs v) → HasNotSent values to w (record w { owner = p; misfits = misfits; outs = outs })
  sends_none w p misfits outs to same_values same_owner why same kept = record {
    why = why;
    link = kept;
    ends = same;
    worker = λ j. record w { owner = same_owner j; misfits = same_values j; outs = outs };
  }

  -- ---- receiving
  pub takes_one : (owner : S → List ℕ → ℕ → ℕ) (w : WorkerOf S F) (p : OwnerOf S) (misfits : List Packet) (ins : List (In F)) (from n : ℕ) (m : Message) → misfits ≡ w.misfits
      → ((bound : Distance) → under p bound ≡ took (space_of owner w.owner) (under w.owner bound) m) → p.space ≡ w.owner.space
      → p.worker ≡ w.owner.worker → p.expansions ≡ w.owner.expansions → n ≡ suc w.taken → AreSameIns w.ins ins
      → length (known_from (values_in values w) w.ins from) ≤ suc (length (known_from (values_in values w) ins from))
      → ((u : ℕ) → received_from (values_in values w) ins u ≡ put (received_from (values_in values w) w.ins) from (received_from (values_in values w) w.ins from ++ m ∷ []) u)
      → HasTaken owner values from w (record w { owner = p; misfits = misfits; ins = ins; taken = n })
  takes_one owner w p misfits ins from n m same_values taken same_space same_number same_expansions count same fewer received = record {
    message = m;
    popped = record { link = received; fewer = fewer; ends = same };
    took = taken;
    others = λ j. record {
      space = same_space j;
      worker = same_number j;
      nodes = p.nodes;
      ever = p.ever;
      outboxes = (taken Infinite j).outboxes;
      best = p.best;
      expansions = same_expansions j;
    };
    worker = λ j. record w { owner = p; misfits = same_values j; ins = ins; taken = count j };
  }

  pub takes_nothing : (w : WorkerOf S F) (ins : List (In F)) (from : ℕ) → ((i : In F) → slice_get w.ins from ≡ Some i → known i ≡ [])
      → AreSameIns w.ins ins → ((u : ℕ) → received_from (values_in values w) ins u ≡ received_from (values_in values w) w.ins u) → HasNothingTaken values from w (record w { ins = ins })
  takes_nothing w ins from why same kept = record { why = why; link = kept; ends = same; worker = refl }

  -- a link that was not known to hold a message is not looked at
  pub passes_over : (w : WorkerOf S F) (from : ℕ) → ((i : In F) → slice_get w.ins from ≡ Some i → known i ≡ []) → HasNothingTaken values from w w
  passes_over w from why = takes_nothing w w.ins from why (ins_same w.ins) (λ u. refl)

  pub sets_aside : (owner : S → List ℕ → ℕ → ℕ) (w : WorkerOf S F) (ins : List (In F)) (from : ℕ) (m : Message)
      → fits (space_of owner w.owner) w.owner.worker m ≡ false → AreSameIns w.ins ins
      → length (known_from (values_in values w) w.ins from) ≤ suc (length (known_from (values_in values w) ins from))
      → ((u : ℕ) → received_from (values_in values w) ins u ≡ put (received_from (values_in values w) w.ins) from (received_from (values_in values w) w.ins from ++ m ∷ []) u)
      → HasSetAside owner values from w (record w { ins = ins; misfits = record { sender = from; message = m } ∷ [] })
  sets_aside owner w ins from m unfit same fewer received = record {
    message = m;
    popped = record { link = received; fewer = fewer; ends = same };
    unfit = unfit;
    worker = refl;
  }

  pub holds : (w : WorkerOf S F) (p : OwnerOf S) (misfits : List Packet) (mid ins : List (In F)) (from : ℕ) (m n : Message) → n ≡ m → misfits ≡ w.misfits → p ≡ w.owner
      → AreSameIns w.ins mid
      → ((u : ℕ) → received_from (values_in values w) mid u ≡ put (received_from (values_in values w) w.ins) from (received_from (values_in values w) w.ins from ++ m ∷ []) u)
      → AreSameIns mid ins
      → ((u : ℕ) → received_from (values_in values w) mid u ≡ put (received_from (values_in values w) ins) from (received_from (values_in values w) ins from ++ n ∷ []) u)
      → known_from (values_in values w) ins from ≢ [] → HasHeld values from w (record w { owner = p; misfits = misfits; ins = ins })
  holds w p misfits mid ins from m n is same_values same_owner same taken same_again back some = record {
    link = put_again (received_from (values_in values w) w.ins) (received_from (values_in values w) ins) (received_from (values_in values w) mid) from m n is taken back;
    known_is = some;
    ends = ins_through w.ins mid ins same same_again;
    worker = λ j. record w { owner = same_owner j; misfits = same_values j; ins = ins };
  }

-- ---- counting
-- a worker that counts among the units comes to rest if its owner is idle
pub rests_if_idle : {S F : Type 0} (owner : S → List ℕ → ℕ → ℕ) (w : WorkerOf S F) (is_idle : Bool) → (not w.resting || wakes w) ≡ true
    → is_idle ≡ idle (space_of owner w.owner) (under w.owner w.bound) → is_idle ≡ comes_to_rest owner w
rests_if_idle owner w is_idle counts is = is ∙ ap (λ (b : Bool). b && idle (space_of owner w.owner) (under w.owner w.bound)) (sym counts)
