-- Messages that go underway.
use Rattle.std.proofs.Common.{◌≡◌, ◌≢◌, ℕ, ◌<◌, ◌≤◌, true, false, not, List, [], ◌∷◌, ◌++◌, length, All, refl, sym, ap, ◌∙◌, subst, ⊎_elim, arith}
use Rattle.std.specs.Prelude.{slice_set}
use Rattle.std.proofs.lemmas.List.{length-set}
use Rattle.std.proofs.lemmas.List.Elements.{All-append, All-cons, All-nil}
use Rattle.std.proofs.lemmas.Bool.{true≢false}
use Rattle.cost.specs.Distances.{Distance}
use Rattle.owner_theory.specs.Owners as machine
use Rattle.owner_theory.specs.Owners.{At, SearchSpace, Message, Packet, Log, HandOut, list_at, handed_out, happens, put}
use Rattle.owner_theory.specs.Worlds.{World, Sends, is_empty, sent}
use Rattle.owner.specs.Owned.{OwnerOf, IsLogOf, under, space_of, IsMessageTo}
use Rattle.owner.proofs.Logs.{log_after}
use Rattle.owner.specs.declared.fault.OwnerFault.TheVariants.{OutOfMemory}
use Rattle.netcore.specs.declared.step.WorldStep.TheVariants.{Send}
use Rattle.netcore.specs.Worlds.{WorldOf, space_in, packets_to, Shows, Steps}
use Rattle.netcore.specs.Kept.{IsStepDone, IsStepRefused, IsWorld}
use Rattle.netcore.proofs.Places.{at_below, at_set, list_past}
use Rattle.netcore.proofs.Queues.{sent_here, sent_there}
use Rattle.netcore.proofs.Shown.{shown, nothing_done, kept, run_after}
use Rattle.netcore.proofs.Expanding.{at_owner_here, at_owner_past, owner_space, here_one, there_one, one_owner, refused_whole}

pub no_message : (q : List Message) → length q ≡ 0 → q ≡ []
no_message [] e = refl
no_message (x ∷ q) e = absurd (omega arith)

handed_expansions : (to : ℕ) (l : Log) (ms : List Message) → (handed_out to l ms).expansions ≡ l.expansions
handed_expansions to l [] = refl
handed_expansions to l (m ∷ ms) = refl

module _ {S : Type 0} (owner : S → List ℕ → ℕ → ℕ) where
  -- ---- nothing to send
  unsent : (old : WorldOf S) (v to : ℕ) (world : World) → Shows owner old world → list_at (world.logs v).owner.outboxes to ≡ []
      → Steps owner old world (Send v to) old
  unsent old v to world shows none = record {
    step = Sends v to;
    does = refl;
    shown = subst (Shows owner old) (sym (ap (sent (space_in owner old) world v to) none)) shows;
  }

  pub send_past : (old : WorldOf S) (v to : ℕ) → length old.owners ≤ v → IsStepDone owner old old (Send v to) false
  send_past old v to le = nothing_done owner old (Send v to) false refl (at_owner_past owner old v _ le)
      (λ world shows. unsent old v to world shows ((shows.others v le).outboxes to))

  pub send_none : (old : WorldOf S) (v to : ℕ) (o : OwnerOf S) (b : Distance) → At old.owners v o → At old.seen v b → list_at o.outboxes to ≡ []
      → IsStepDone owner old old (Send v to) false
  send_none old v to o b at seen none =
      nothing_done owner old (Send v to) false refl (at_owner_here owner old v o b _ at seen ∙ ap (λ q. not (is_empty q)) none)
      (λ world shows. unsent old v to world shows (ap (λ w. list_at w.outboxes to) (shows.owners v o b at seen).owner ∙ none))

  -- an outbox to an owner that there is not
  pub send_to_past : (old : WorldOf S) (v to : ℕ) (o : OwnerOf S) (b : Distance) → IsWorld owner old → At old.owners v o → At old.seen v b
      → length old.owners ≤ to → IsStepDone owner old old (Send v to) false
  send_to_past old v to o b is at seen le = send_none old v to o b at seen
      (list_past o.outboxes to (let n = is.outboxes v o at in omega arith))

  -- ---- a message is sent
  abbrev pub packet_from : ℕ → Message → Packet
  packet_from v m = record { sender = v; message = m }

  abbrev pub with_sent : WorldOf S → ℕ → OwnerOf S → ℕ → List Packet → WorldOf S
  with_sent w v p to q = record w { owners = slice_set w.owners v p; underway = slice_set w.underway to q }

  -- the owner's oldest message for another is taken out
  pub record IsHandOut (old : WorldOf S) (v to : ℕ) (o p : OwnerOf S) (b : Distance) (q : List Packet) (m : Message) : Type 0 where
    pub at : At old.owners v o
    pub seen : At old.seen v b
    pub queue : At old.underway to q
    pub first : list_at o.outboxes to ≡ m ∷ list_at p.outboxes to
    pub others : p ≡ record o { outboxes = slice_set o.outboxes to (list_at p.outboxes to) }
    pub fits : IsMessageTo (space_of owner o) to m

  fits_in : (old : WorldOf S) (v to : ℕ) (o p : OwnerOf S) (b : Distance) (q : List Packet) (m : Message) → IsWorld owner old
      → IsHandOut old v to o p b q m → IsMessageTo (space_in owner old) to m
  fits_in old v to o p b q m is out = subst (λ s. IsMessageTo s to m) (owner_space owner old v o is out.at) out.fits

  log_sent : (old : WorldOf S) (v to : ℕ) (o p : OwnerOf S) (b : Distance) (q : List Packet) (m : Message) (world : World)
      → Shows owner old world → IsHandOut old v to o p b q m
      → IsLogOf (happens (space_in owner old) v (world.logs v) (HandOut to)) p b
  log_sent old v to o p b q m world shows out =
      let log = shows.owners v o b out.at out.seen in
      let x : (world.logs v).owner ≡ under o b = log.owner in
      let rest = list_at p.outboxes to in
      log_after (world.logs v) (happens (space_in owner old) v (world.logs v) (HandOut to)) o p b b log
      (ap (λ ms. (handed_out to (world.logs v) ms).owner) (ap (λ w. list_at w.outboxes to) x ∙ out.first)
      ∙ (ap (λ (w : machine.Owner). let after : machine.Owner = record { nodes = w.nodes; outboxes = slice_set w.outboxes to rest; bound = w.bound; best = w.best } in after) x
      ∙ sym (ap (λ z. under z b) out.others)))
      (handed_expansions to (world.logs v) (list_at (world.logs v).owner.outboxes to))
      (ap (λ (z : OwnerOf S). z.space) out.others) (ap (λ (z : OwnerOf S). z.expansions) out.others)

  queues_after : (old : WorldOf S) (v to : ℕ) (o p : OwnerOf S) (b : Distance) (q : List Packet) (m : Message) (world : World)
      → IsWorld owner old → Shows owner old world → IsHandOut old v to o p b q m
      → (u : ℕ) (ps : List Packet) → At (slice_set old.underway to (q ++ packet_from v m ∷ [])) u ps
      → packets_to (space_in owner old) u (world.underway ++ packet_from v m ∷ []) ≡ ps
  queues_after old v to o p b q m world is shows out u ps there =
      let space = space_in owner old in
      let mine : space.owner_of m.state ≡ to = (fits_in old v to o p b q m is out).owner in
      ⊎_elim
      (λ (h : (u ≡ to) × (q ++ packet_from v m ∷ [] ≡ ps)). subst (λ k. packets_to space k (world.underway ++ packet_from v m ∷ []) ≡ ps) (sym h.0)
      (sent_here space to world.underway (packet_from v m) mine
      ∙ (ap (λ z. z ++ packet_from v m ∷ []) (shows.underway to q out.queue) ∙ h.1)))
      (λ (h : (u ≢ to) × At old.underway u ps). sent_there space u world.underway (packet_from v m) (λ e. h.0 (sym e ∙ mine))
      ∙ shows.underway u ps h.1)
      (at_set old.underway to (q ++ packet_from v m ∷ []) u ps there)

  pub send_done : (old : WorldOf S) (v to : ℕ) (o p : OwnerOf S) (b : Distance) (q : List Packet) (m : Message) → IsWorld owner old
      → IsHandOut old v to o p b q m → IsStepDone owner old (with_sent old v p to (q ++ packet_from v m ∷ [])) (Send v to) true
  send_done old v to o p b q m is out =
      let space = space_in owner old in
      let new = with_sent old v p to (q ++ packet_from v m ∷ []) in
      record {
        stepped = λ world shows.
            let y : list_at (world.logs v).owner.outboxes to ≡ m ∷ list_at p.outboxes to =
            ap (λ w. list_at w.outboxes to) (shows.owners v o b out.at out.seen).owner ∙ out.first in
            record {
              step = Sends v to;
              does = refl;
              shown = subst (Shows owner new) (sym (ap (sent space world v to) y))
                  (shown owner old new world v (happens space v (world.logs v) (HandOut to)) (world.underway ++ packet_from v m ∷ []) world.bound
                  world.resting shows refl (length-set old.owners v p)
                  (here_one owner old v p b (happens space v (world.logs v) (HandOut to)) out.seen (log_sent old v to o p b q m world shows out))
                  (there_one owner old v p)
                  (λ le. let lt = at_below old.owners v o out.at in absurd (omega arith))
                  (queues_after old v to o p b q m world is shows out)
                  shows.bound shows.resting);
            };
        changed_is = sym (at_owner_here owner old v o b _ out.at out.seen ∙ ap (λ z. not (is_empty z)) out.first);
        unchanged = λ e. absurd (true≢false e);
        limited = refl;
        space = refl;
        owners = length-set old.owners v p;
      }

  handed_same : (v to : ℕ) (o p : OwnerOf S) → p ≡ record o { outboxes = slice_set o.outboxes to (list_at p.outboxes to) }
      → (p.space ≡ o.space) × (p.worker ≡ o.worker) × (length p.outboxes ≡ length o.outboxes)
  handed_same v to o p e = (
    ap (λ (z : OwnerOf S). z.space) e,
    ap (λ (z : OwnerOf S). z.worker) e,
    ap (λ (z : OwnerOf S). length z.outboxes) e ∙ length-set o.outboxes to (list_at p.outboxes to),
  )

  pub send_kept : (old : WorldOf S) (v to : ℕ) (o p : OwnerOf S) (b : Distance) (q : List Packet) (m : Message) → IsWorld owner old
      → IsHandOut old v to o p b q m → IsWorld owner (with_sent old v p to (q ++ packet_from v m ∷ []))
  send_kept old v to o p b q m is out =
      let new = with_sent old v p to (q ++ packet_from v m ∷ []) in
      let space = space_in owner old in
      let (e, f, n) = handed_same v to o p out.others in
      kept owner old new is refl (length-set old.owners v p) (length-set old.underway to (q ++ packet_from v m ∷ [])) refl refl
      (one_owner owner old v o p out.at e f n)
      (λ u ps there. ⊎_elim
      (λ (h : (u ≡ to) × (q ++ packet_from v m ∷ [] ≡ ps)). subst (λ zs. All (λ z. IsMessageTo space u z.message) zs) h.1
      (subst (λ k. All (λ z. IsMessageTo space k z.message) (q ++ packet_from v m ∷ [])) (sym h.0)
      (All-append (λ (z : Packet). IsMessageTo space to z.message) q (packet_from v m ∷ []) (is.messages to q out.queue)
      (All-cons (λ (z : Packet). IsMessageTo space to z.message) (packet_from v m) [] (fits_in old v to o p b q m is out)
      (All-nil (λ (z : Packet). IsMessageTo space to z.message))))))
      (λ (h : (u ≢ to) × At old.underway u ps). is.messages u ps h.1)
      (at_set old.underway to (q ++ packet_from v m ∷ []) u ps there))
      (run_after owner old new (Send v to) true (send_done old v to o p b q m is out) is)

  -- ---- there is no room for it
  pub send_refused : (old : WorldOf S) (v to : ℕ) (o : OwnerOf S) (b : Distance) → At old.owners v o → At old.seen v b
      → length (list_at o.outboxes to) ≢ 0 → IsStepRefused owner old old (Send v to) OutOfMemory
  send_refused old v to o b at seen some =
      refused_whole owner old (Send v to) (at_owner_here owner old v o b _ at seen ∙ not_empty (list_at o.outboxes to) some)
    where
      not_empty : (q : List Message) → length q ≢ 0 → not (is_empty q) ≡ true
      not_empty [] some = absurd (some refl)
      not_empty (x ∷ q) some = refl
