-- What a worker keeps in each thing that it does.
use Rattle.std.proofs.Common.{◌≡◌, ◌==◌, ℕ, zero, suc, Bool, true, false, List, [], ◌∷◌, ◌++◌, length, Option, Some, None, cond, refl, sym, ap, ◌∙◌, subst}
use Rattle.std.specs.Prelude.{slice_set, slice_get}
use Rattle.std.proofs.Math.Logic.{∥∥₁_elim}
use Rattle.std.proofs.lemmas.List.{length-set}
use Rattle.cost.specs.Distances.{Distance, Infinite, lesser}
use Rattle.fdr.specs.Tasks.{ranges}
use Rattle.owner_theory.specs.Owners as machine
use Rattle.owner_theory.specs.Owners.{SearchSpace, Message, Packet, Log, Look, Offer, HandOut, Take, Expand, fits, list_at, put, handed_out, happens, start, start_owner, took, expanded_at}
use Rattle.owner_theory.specs.Threads.{IsWorker}
use Rattle.owner_theory.proofs.Joins.{begins, acts, takes, misses, holds_out, pushes}
use Rattle.owner.specs.Spaces.{SpaceOf, searched}
use Rattle.owner.specs.Owned.{OwnerOf, space_of, under, IsMessageTo, Expands, IsExpansion}
use Rattle.owner.proofs.Logs.{first_log, log_after, log_expanded}
use Rattle.links.specs.declared.ends.Out.{Out}
use Rattle.links.specs.declared.ends.In.{In}
use Rattle.worker.specs.Matching.{IsMatchedUp}
use Rattle.worker.specs.Workers.{WorkerOf, values_in, IsWorking, IsKept, sent_to, received_from}

-- a list with the element at a place written there again
pub set_again : (bs : List (List Message)) (k : ℕ) → slice_set bs k (list_at bs k) ≡ bs
set_again [] k = refl
set_again (b ∷ bs) zero = refl
set_again (b ∷ bs) (suc k) = ap (λ l. b ∷ l) (set_again bs k)

module _ {S : Type 0} (owner : S → List ℕ → ℕ → ℕ) where
  -- there was no message to send
  pub none_to_send : (o p : OwnerOf S) (to : ℕ) → list_at o.outboxes to ≡ list_at p.outboxes to
      → p ≡ record o { outboxes = slice_set o.outboxes to (list_at p.outboxes to) } → p ≡ o
  none_to_send o p to same is =
      is ∙ ap (λ bs. let after : OwnerOf S = record o { outboxes = bs } in after)
      (ap (slice_set o.outboxes to) (sym same) ∙ set_again o.outboxes to)

module _ {S F : Type 0} (owner : S → List ℕ → ℕ → ℕ) (values : List ℕ → F → List ℕ) where
  HasLog : WorkerOf S F → Type 0
  HasLog w = (log : Log) × IsWorking owner values w log

  -- from each log of the worker there is one that it has afterwards
  kept_after : (old new : WorkerOf S F) → IsKept owner values old → length new.outs ≡ length old.outs → length new.ins ≡ length old.ins
      → length new.owner.outboxes ≡ length old.owner.outboxes
      → ((log : Log) → IsWorking owner values old log → (next : Log) × IsWorking owner values new next) → IsKept owner values new
  kept_after old new is outs ins boxes on = record {
    outs = outs ∙ (is.outs ∙ sym boxes);
    ins = ins ∙ (is.ins ∙ sym boxes);
    working = ∥∥₁_elim is.working squash₁ (λ (p : (log : Log) × IsWorking owner values old log). ∣ on p.0 p.1 ∣₁);
  }

  -- what was set aside is told by another list that is the same
  pub with_misfits : (w : WorkerOf S F) (misfits : List Packet) → misfits ≡ w.misfits → IsKept owner values w → IsKept owner values (record w { misfits = misfits })
  with_misfits w misfits same kept = subst (λ (ps : List Packet). IsKept owner values (record w { misfits = ps })) (sym same) kept

  -- ---- counting
  pub counted : (w : WorkerOf S F) (r : Bool) (u t : ℕ) → IsKept owner values w → IsKept owner values (record w { resting = r; uncounted = u; taken = t })
  counted w r u t kept = kept_after w (record w { resting = r; uncounted = u; taken = t }) kept refl refl refl (λ log working. (
    log,
    record { works = working.works; log_is = working.log_is; seen_is = working.seen_is; offered_is = working.offered_is },
  ))

  -- ---- looking and offering
  pub looked : (w : WorkerOf S F) (b s : Distance) → s ≡ lesser w.seen b → IsKept owner values w → IsKept owner values (record w { bound = b; seen = s })
  looked w b s is kept = kept_after w (record w { bound = b; seen = s }) kept refl refl refl (λ log working. (
    happens (space_of owner w.owner) w.owner.worker log (Look b),
    record {
      works = acts (space_of owner w.owner) w.owner.worker log (sent_to (values_in values w) w.outs) (received_from (values_in values w) w.ins) [] w.misfits (Look b) refl refl working.works;
      log_is = log_after log (happens (space_of owner w.owner) w.owner.worker log (Look b)) w.owner w.owner w.bound b working.log_is
          (ap (λ (o : machine.Owner). let after : machine.Owner = record { nodes = o.nodes; outboxes = o.outboxes; bound = b; best = o.best } in after) working.log_is.owner) refl refl refl;
      seen_is = ap (λ d. lesser d b) working.seen_is ∙ sym is;
      offered_is = working.offered_is;
    },
  ))

  pub offered : (w : WorkerOf S F) (d : Distance) → d ≡ lesser w.offered w.owner.best → IsKept owner values w → IsKept owner values (record w { offered = d })
  offered w d is kept = kept_after w (record w { offered = d }) kept refl refl refl (λ log working. (
    happens (space_of owner w.owner) w.owner.worker log Offer,
    record {
      works = acts (space_of owner w.owner) w.owner.worker log (sent_to (values_in values w) w.outs) (received_from (values_in values w) w.ins) [] w.misfits Offer refl refl working.works;
      log_is = log_after log (happens (space_of owner w.owner) w.owner.worker log Offer) w.owner w.owner w.bound w.bound working.log_is working.log_is.owner
          refl refl refl;
      seen_is = working.seen_is;
      offered_is = ap (λ x. lesser x log.owner.best) working.offered_is
          ∙ (ap (λ (o : machine.Owner). lesser w.offered o.best) working.log_is.owner ∙ sym is);
    },
  ))

  -- ---- sending
  -- nothing more was sent
  pub ends_looked_at : (w : WorkerOf S F) (outs : List (Out F)) → length outs ≡ length w.outs → ((v : ℕ) → sent_to (values_in values w) outs v ≡ sent_to (values_in values w) w.outs v)
      → IsKept owner values w → IsKept owner values (record w { outs = outs })
  ends_looked_at w outs len same kept = kept_after w (record w { outs = outs }) kept len refl refl (λ log working. (
    log,
    record {
      works = subst (λ (f : ℕ → List Message). IsWorker (space_of owner w.owner) w.owner.worker log f (received_from (values_in values w) w.ins) [] w.misfits)
          (λ j v. sym (same v) j) working.works;
      log_is = working.log_is;
      seen_is = working.seen_is;
      offered_is = working.offered_is;
    },
  ))

  pub with_owner : (w : WorkerOf S F) (p : OwnerOf S) (misfits : List Packet) → p ≡ w.owner → misfits ≡ w.misfits → IsKept owner values w
      → IsKept owner values (record w { owner = p; misfits = misfits })
  with_owner w p misfits same same_values kept =
      with_misfits (record w { owner = p }) misfits same_values (subst (λ (o : OwnerOf S). IsKept owner values (record w { owner = o })) (sym same) kept)

  -- the oldest message was sent
  pub sent_one : (w : WorkerOf S F) (p : OwnerOf S) (misfits : List Packet) (outs : List (Out F)) (to : ℕ) (m : Message) → misfits ≡ w.misfits → IsKept owner values w
      → list_at w.owner.outboxes to ≡ m ∷ list_at p.outboxes to
      → p ≡ record w.owner { outboxes = slice_set w.owner.outboxes to (list_at p.outboxes to) }
      → IsMessageTo (space_of owner w.owner) to m → length outs ≡ length w.outs
      → ((v : ℕ) → sent_to (values_in values w) outs v ≡ put (sent_to (values_in values w) w.outs) to (sent_to (values_in values w) w.outs to ++ m ∷ []) v)
      → IsKept owner values (record w { owner = p; misfits = misfits; outs = outs })
  sent_one w p misfits outs to m same_values kept first others fits len sent =
      with_misfits (record w { owner = p; outs = outs }) misfits same_values
      (subst (λ (o : OwnerOf S). IsKept owner values (record w { owner = o; outs = outs })) (sym others)
      (kept_after w (record w { owner = q; outs = outs }) kept len refl (length-set w.owner.outboxes to rest) (λ log working.
      let x : log.owner ≡ under w.owner w.bound = working.log_is.owner in
      let box : list_at log.owner.outboxes to ≡ m ∷ rest = ap (λ (o : machine.Owner). list_at o.outboxes to) x ∙ first in
      let space = space_of owner w.owner in
      let me = w.owner.worker in
      let held = holds_out space me log (sent_to (values_in values w) w.outs) (received_from (values_in values w) w.ins) w.misfits to m rest box working.works in
      let pushed = pushes space me (happens space me log (HandOut to)) (sent_to (values_in values w) w.outs) (received_from (values_in values w) w.ins) w.misfits to m fits.owner held in (
        happens space me log (HandOut to),
        record {
          works = subst (λ n. IsWorker (searched owner w.owner.space n) me (happens space me log (HandOut to)) (sent_to (values_in values w) outs) (received_from (values_in values w) w.ins) [] w.misfits)
              (sym (length-set w.owner.outboxes to rest))
              (subst (λ (f : ℕ → List Message). IsWorker space me (happens space me log (HandOut to)) f (received_from (values_in values w) w.ins) [] w.misfits)
              (λ j v. sym (sent v) j) pushed);
          log_is = log_after log (happens space me log (HandOut to)) w.owner q w.bound w.bound working.log_is
              (ap (λ ms. (handed_out to log ms).owner) box
              ∙ ap (λ (o : machine.Owner). let after : machine.Owner = record { nodes = o.nodes; outboxes = slice_set o.outboxes to rest; bound = o.bound; best = o.best } in after) x)
              (ap (λ ms. (handed_out to log ms).expansions) box) refl refl;
          seen_is = ap (λ ms. (handed_out to log ms).seen) box ∙ working.seen_is;
          offered_is = ap (λ ms. (handed_out to log ms).offered) box ∙ working.offered_is;
        },
      ))))
    where
      rest : List Message
      rest = list_at p.outboxes to

      q : OwnerOf S
      q = record w.owner { outboxes = slice_set w.owner.outboxes to rest }

module _ {S F : Type 0} (owner : S → List ℕ → ℕ → ℕ) (values : List ℕ → F → List ℕ) where
  -- ---- receiving
  -- nothing more was received
  pub nothing_received : (w : WorkerOf S F) (ins : List (In F)) → length ins ≡ length w.ins → ((v : ℕ) → received_from (values_in values w) ins v ≡ received_from (values_in values w) w.ins v)
      → IsKept owner values w → IsKept owner values (record w { ins = ins })
  nothing_received w ins len same kept = kept_after owner values w (record w { ins = ins }) kept refl len refl (λ log working. (
    log,
    record {
      works = subst (λ (f : ℕ → List Message). IsWorker (space_of owner w.owner) w.owner.worker log (sent_to (values_in values w) w.outs) f [] w.misfits)
          (λ j v. sym (same v) j) working.works;
      log_is = working.log_is;
      seen_is = working.seen_is;
      offered_is = working.offered_is;
    },
  ))

  -- a message that does not fit was received, and is set aside
  pub set_aside : (w : WorkerOf S F) (ins : List (In F)) (from : ℕ) (m : Message) → IsKept owner values w → w.misfits ≡ []
      → fits (space_of owner w.owner) w.owner.worker m ≡ false → length ins ≡ length w.ins
      → ((v : ℕ) → received_from (values_in values w) ins v ≡ put (received_from (values_in values w) w.ins) from (received_from (values_in values w) w.ins from ++ m ∷ []) v)
      → IsKept owner values (record w { ins = ins; misfits = record { sender = from; message = m } ∷ [] })
  set_aside w ins from m kept none unfit len received =
      kept_after owner values w (record w { ins = ins; misfits = record { sender = from; message = m } ∷ [] }) kept refl len refl (λ log working.
      let space = space_of owner w.owner in
      let me = w.owner.worker in
      let one : List Packet = record { sender = from; message = m } ∷ [] in
      let missed = misses space me log (sent_to (values_in values w) w.outs) (received_from (values_in values w) w.ins) [] w.misfits from m unfit working.works in (
        log,
        record {
          works = subst (λ (f : ℕ → List Message). IsWorker space me log (sent_to (values_in values w) w.outs) f [] one) (λ j v. sym (received v) j)
              (subst (λ ps. IsWorker space me log (sent_to (values_in values w) w.outs) (put (received_from (values_in values w) w.ins) from (received_from (values_in values w) w.ins from ++ m ∷ [])) []
              (record { sender = from; message = m } ∷ ps)) none missed);
          log_is = working.log_is;
          seen_is = working.seen_is;
          offered_is = working.offered_is;
        },
      ))

  -- a message was received and taken
  pub received_one : (w : WorkerOf S F) (p : OwnerOf S) (misfits : List Packet) (ins : List (In F)) (from : ℕ) (m : Message) → misfits ≡ w.misfits → IsKept owner values w
      → fits (space_of owner w.owner) w.owner.worker m ≡ true
      → ((bound : Distance) → under p bound ≡ took (space_of owner w.owner) (under w.owner bound) m) → p.space ≡ w.owner.space
      → p.worker ≡ w.owner.worker → p.expansions ≡ w.owner.expansions → length ins ≡ length w.ins
      → ((v : ℕ) → received_from (values_in values w) ins v ≡ put (received_from (values_in values w) w.ins) from (received_from (values_in values w) w.ins from ++ m ∷ []) v)
      → IsKept owner values (record w { owner = p; misfits = misfits; ins = ins })
  received_one w p misfits ins from m same_values kept fit taken same_space same_number same_count len received =
      with_misfits owner values (record w { owner = p; ins = ins }) misfits same_values
      (kept_after owner values w (record w { owner = p; ins = ins }) kept refl len boxes (λ log working.
      let space = space_of owner w.owner in
      let me = w.owner.worker in
      let next = happens space me log (Take from m) in
      let kept_it = takes space me log (sent_to (values_in values w) w.outs) (received_from (values_in values w) w.ins) [] w.misfits from m fit working.works in
      let does : next ≡ record log { owner = took space log.owner m; taken = record { sender = from; message = m } ∷ log.taken } =
      ap (λ t. cond t (let after : Log = record log { owner = took space log.owner m; taken = record { sender = from; message = m } ∷ log.taken } in after) log) fit in (
        next,
        record {
          works = subst (λ (s : SpaceOf S). IsWorker (searched owner s (length p.outboxes)) p.worker next (sent_to (values (ranges s.task)) w.outs)
              (received_from (values (ranges s.task)) ins) [] w.misfits)
              (sym same_space)
              (subst (λ n. IsWorker (searched owner w.owner.space n) p.worker next (sent_to (values_in values w) w.outs) (received_from (values_in values w) ins) [] w.misfits)
              (sym boxes)
              (subst (λ n. IsWorker space n next (sent_to (values_in values w) w.outs) (received_from (values_in values w) ins) [] w.misfits) (sym same_number)
              (subst (λ (f : ℕ → List Message). IsWorker space me next (sent_to (values_in values w) w.outs) f [] w.misfits) (λ j v. sym (received v) j) kept_it)));
          log_is = log_after log next w.owner p w.bound w.bound working.log_is
              (ap (λ (l : Log). l.owner) does ∙ (ap (λ (o : machine.Owner). took space o m) working.log_is.owner ∙ sym (taken w.bound)))
              (ap (λ (l : Log). l.expansions) does) same_space same_count;
          seen_is = ap (λ (l : Log). l.seen) does ∙ working.seen_is;
          offered_is = ap (λ (l : Log). l.offered) does ∙ working.offered_is;
        },
      )))
    where
      boxes : length p.outboxes ≡ length w.owner.outboxes
      boxes = ap (λ (o : machine.Owner). length o.outboxes) (taken w.bound)

  -- ---- looking at both ends of a link
  pub outs_matched : (w : WorkerOf S F) (to from : ℕ) (outs : List (Out F)) (is js : List (In F)) (n : ℕ) → IsMatchedUp to from w.outs outs is js n
      → IsKept owner values w → IsKept owner values (record w { outs = outs })
  outs_matched w to from outs is js n m kept =
      ends_looked_at owner values w outs (ap length m.outs_after ∙ length-set w.outs to m.sender) (m.sent_same (values_in values w)) kept

  pub ins_matched : (w : WorkerOf S F) (to from : ℕ) (os ps : List (Out F)) (ins : List (In F)) (n : ℕ) → IsMatchedUp to from os ps w.ins ins n
      → IsKept owner values w → IsKept owner values (record w { ins = ins })
  ins_matched w to from os ps ins n m kept =
      nothing_received w ins (ap length m.ins_after ∙ length-set w.ins from m.receiver) (m.received_same (values_in values w)) kept

  -- ---- expanding
  pub expanded_one : (w : WorkerOf S F) (p : OwnerOf S) (posted : ℕ) → IsKept owner values w → Expands owner w.bound w.owner posted p
      → length p.outboxes ≡ length w.owner.outboxes → IsKept owner values (record w { owner = p })
  expanded_one w p posted kept done boxes = kept_after owner values w (record w { owner = p }) kept refl refl boxes (λ log working.
      let space = space_of owner w.owner in
      let me = w.owner.worker in
      let next = happens space me log (Expand done.index) in (
        next,
        record {
          works = subst (λ (s : SpaceOf S). IsWorker (searched owner s (length p.outboxes)) p.worker next (sent_to (values (ranges s.task)) w.outs)
              (received_from (values (ranges s.task)) w.ins) [] w.misfits)
              (sym done.space)
              (subst (λ n. IsWorker (searched owner w.owner.space n) p.worker next (sent_to (values_in values w) w.outs) (received_from (values_in values w) w.ins) [] w.misfits)
              (sym boxes)
              (subst (λ n. IsWorker space n next (sent_to (values_in values w) w.outs) (received_from (values_in values w) w.ins) [] w.misfits) (sym done.worker)
              (acts space me log (sent_to (values_in values w) w.outs) (received_from (values_in values w) w.ins) [] w.misfits (Expand done.index) refl refl working.works)));
          log_is = log_expanded space log w.owner p w.bound me done.index done.node working.log_is done.next done.allowed done.after done.space done.counted;
          seen_is = working.seen_is;
          offered_is = working.offered_is;
        },
      ))

  -- what came of a request to expand
  pub expanded_kept : (w : WorkerOf S F) (p : OwnerOf S) (misfits : List Packet) (r : Option ℕ) → misfits ≡ w.misfits → IsKept owner values w
      → IsExpansion owner w.bound w.owner p r → length p.outboxes ≡ length w.owner.outboxes → IsKept owner values (record w { owner = p; misfits = misfits })
  expanded_kept w p misfits None same kept done boxes = with_owner owner values w p misfits done.1 same kept
  expanded_kept w p misfits (Some posted) same kept done boxes =
      with_misfits owner values (record w { owner = p }) misfits same (expanded_one w p posted kept done boxes)

  -- ---- the beginning
  pub begun : (space : SpaceOf S) (number n : ℕ) (outs : List (Out F)) (ins : List (In F)) (o : OwnerOf S)
      → under o Infinite ≡ start_owner (searched owner space n) (owner space.spread space.task.initial n == number) → o.space ≡ space
      → o.worker ≡ number → o.expansions ≡ 0 → length o.outboxes ≡ n → length outs ≡ n → ((v : ℕ) → sent_to (values (ranges space.task)) outs v ≡ []) → length ins ≡ n
      → ((v : ℕ) → received_from (values (ranges space.task)) ins v ≡ [])
      → IsKept owner values (record { owner = o; outs = outs; ins = ins; bound = Infinite; seen = Infinite; offered = Infinite; misfits = []; resting = false; uncounted = 0; taken = 0 })
  begun space number n outs ins o started same_space same_number no_expansions boxes out_len none_sent in_len none_received = record {
    outs = out_len ∙ sym boxes;
    ins = in_len ∙ sym boxes;
    working = ∣ (
      start (searched owner space n) number,
      record {
        works = subst (λ (s : SpaceOf S). IsWorker (searched owner s (length o.outboxes)) o.worker (start (searched owner space n) number)
            (sent_to (values (ranges s.task)) outs) (received_from (values (ranges s.task)) ins) [] [])
            (sym same_space)
            (subst (λ k. IsWorker (searched owner space k) o.worker (start (searched owner space n) number) (sent_to (values (ranges space.task)) outs)
            (received_from (values (ranges space.task)) ins) [] [])
            (sym boxes)
            (subst (λ k. IsWorker (searched owner space n) k (start (searched owner space n) number) (sent_to (values (ranges space.task)) outs) (received_from (values (ranges space.task)) ins) [] []) (sym same_number)
            (subst (λ (f : ℕ → List Message). IsWorker (searched owner space n) number (start (searched owner space n) number) (sent_to (values (ranges space.task)) outs) f [] [])
            (λ j v. sym (none_received v) j)
            (subst (λ (f : ℕ → List Message). IsWorker (searched owner space n) number (start (searched owner space n) number) f (λ v. []) [] [])
            (λ j v. sym (none_sent v) j) (begins (searched owner space n) number)))));
        log_is = first_log (start (searched owner space n) number) o Infinite (sym started) refl no_expansions;
        seen_is = refl;
        offered_is = refl;
      },
    ) ∣₁;
  }
