-- Messages that are taken.
use Rattle.std.proofs.Common.{◌≡◌, ◌≢◌, ℕ, zero, suc, ◌<◌, ◌≤◌, ◌==◌, Bool, true, false, List, [], ◌∷◌, length, Some, None, All, refl, sym, ap, ◌∙◌, subst, ⊎_elim, arith, cond}
use Rattle.std.specs.Prelude.{slice_get, slice_set, nat_lt}
use Rattle.std.specs.List.{remove}
use Rattle.std.proofs.lemmas.Option.{slice_get_past}
use Rattle.std.proofs.lemmas.List.{length-set}
use Rattle.std.proofs.lemmas.List.Elements.{All-head, All-tail, All-cons}
use Rattle.std.proofs.lemmas.Bool.{true≢false, and_from, eq-eqb, eqb-false, lt-ltb, le-ltb}
use Rattle.cost.specs.Distances.{Distance}
use Rattle.fdr.specs.Tasks.{ranges}
use Rattle.checker_clauses.specs.Clauses.{is_state}
use Rattle.owner_theory.specs.Owners.{At, SearchSpace, Message, Packet, Log, Owner, Take, fits, took, happens, put}
use Rattle.owner_theory.specs.Worlds.{World, Delivers, nth_to, without_nth_to, delivered}
use Rattle.owner_theory.proofs.Lists.{put_cases, get_below}
use Rattle.owner_theory.proofs.States.{is_state-from}
use Rattle.owner.specs.Owned.{OwnerOf, IsLogOf, under, space_of, IsMessageTo}
use Rattle.owner.proofs.Logs.{log_after}
use Rattle.owner.specs.declared.fault.OwnerFault.TheVariants.{OutOfMemory}
use Rattle.netcore.specs.declared.step.WorldStep.TheVariants.{Deliver}
use Rattle.netcore.specs.Worlds.{WorldOf, space_in, packets_to, Shows, Steps}
use Rattle.netcore.specs.Kept.{IsStepDone, IsStepRefused, IsWorld}
use Rattle.netcore.proofs.Places.{at_below, at_set, at_list, list_past}
use Rattle.netcore.proofs.Queues.{nth_is_there, without_here, without_there, none_to}
use Rattle.netcore.proofs.Shown.{shown, nothing_done, kept, run_after}
use Rattle.netcore.proofs.Expanding.{owner_space, here_one, there_one, one_owner, refused_whole}

all_get : {X : Type 0} (P : X → Type 0) (xs : List X) (k : ℕ) (x : X) → slice_get xs k ≡ Some x → All P xs → P x
all_get P [] k x is all = absurd (cc)
all_get P (y ∷ xs) zero x is all = let same : y ≡ x = cc in subst P same (All-head P y xs all)
all_get P (y ∷ xs) (suc k) x is all = all_get P xs k x is (All-tail P y xs all)

all_remove : {X : Type 0} (P : X → Type 0) (xs : List X) (k : ℕ) → All P xs → All P (remove xs k)
all_remove P [] zero all = all
all_remove P [] (suc k) all = all
all_remove P (y ∷ xs) zero all = All-tail P y xs all
all_remove P (y ∷ xs) (suc k) all = All-cons P y (remove xs k) (All-head P y xs all) (all_remove P xs k (All-tail P y xs all))

fits_from : (space : SearchSpace) (v : ℕ) (m : Message) → IsMessageTo space v m → fits space v m ≡ true
fits_from space v m ok = and_from (is_state (ranges space.task) m.state) (space.owner_of m.state == v)
    (is_state-from (ranges space.task) m.state ok.state) (eq-eqb (space.owner_of m.state) v ok.owner)

module _ {S : Type 0} (owner : S → List ℕ → ℕ → ℕ) where
  -- ---- nothing to deliver
  undelivered : (old : WorldOf S) (v k : ℕ) (world : World) → Shows owner old world → nth_to (space_in owner old) v k world.underway ≡ None
      → Steps owner old world (Deliver v k) old
  undelivered old v k world shows none = record {
    step = Delivers v k;
    does = refl;
    shown = subst (Shows owner old) (sym (ap (delivered (space_in owner old) world v k) none)) shows;
  }

  pub deliver_past : (old : WorldOf S) (v k : ℕ) → ((state : List ℕ) → owner old.space.spread state (length old.owners) < length old.owners)
      → length old.underway ≡ length old.owners → length old.owners ≤ v → IsStepDone owner old old (Deliver v k) false
  deliver_past old v k below queues le =
      nothing_done owner old (Deliver v k) false refl
      (ap (λ (q : List Packet). nat_lt k (length q)) (list_past old.underway v (omega arith)) ∙ le-ltb k 0 (omega arith))
      (λ world shows. undelivered old v k world shows (nth_is_there (space_in owner old) v k world.underway
      ∙ ap (λ q. slice_get q k) (none_to (space_in owner old) v world.underway
      (λ state e. let lt = below state in absurd (omega (arith, e))))))

  pub deliver_none : (old : WorldOf S) (v k : ℕ) (q : List Packet) → At old.underway v q → length q ≤ k → IsStepDone owner old old (Deliver v k) false
  deliver_none old v k q queue le =
      nothing_done owner old (Deliver v k) false refl
      (ap (λ (z : List Packet). nat_lt k (length z)) (at_list old.underway v q queue) ∙ le-ltb k (length q) le)
      (λ world shows. undelivered old v k world shows (nth_is_there (space_in owner old) v k world.underway
      ∙ (ap (λ z. slice_get z k) (shows.underway v q queue) ∙ slice_get_past q k le)))

  -- ---- a message is taken
  abbrev pub with_taken : WorldOf S → ℕ → OwnerOf S → List Packet → WorldOf S
  with_taken w v p q = record w { owners = slice_set w.owners v p; underway = slice_set w.underway v q; resting = slice_set w.resting v false }

  pub record IsTaking (old : WorldOf S) (v k : ℕ) (o p : OwnerOf S) (b : Distance) (q : List Packet) (x : Packet) : Type 0 where
    pub at : At old.owners v o
    pub seen : At old.seen v b
    pub queue : At old.underway v q
    pub nth : slice_get q k ≡ Some x
    pub after : (bound : Distance) → under p bound ≡ took (space_of owner o) (under o bound) x.message
    pub space : p.space ≡ o.space
    pub worker : p.worker ≡ o.worker
    pub expansions : p.expansions ≡ o.expansions

  pub message_fits : (old : WorldOf S) (v k : ℕ) (q : List Packet) (x : Packet) → IsWorld owner old → At old.underway v q → slice_get q k ≡ Some x
      → IsMessageTo (space_in owner old) v x.message
  message_fits old v k q x is queue nth = all_get (λ (p : Packet). IsMessageTo (space_in owner old) v p.message) q k x nth (is.messages v q queue)

  log_taken : (old : WorldOf S) (v k : ℕ) (o p : OwnerOf S) (b : Distance) (q : List Packet) (x : Packet) (world : World) → IsWorld owner old
      → Shows owner old world → IsTaking old v k o p b q x
      → IsLogOf (happens (space_in owner old) v (world.logs v) (Take x.sender x.message)) p b
  log_taken old v k o p b q x world is shows taking =
      let space = space_in owner old in
      let l = world.logs v in
      let log = shows.owners v o b taking.at taking.seen in
      let takes : happens space v l (Take x.sender x.message) ≡ record l { owner = took space l.owner x.message; taken = x ∷ l.taken } =
      ap (λ (c : Bool). let after : Log = cond c (record l { owner = took space l.owner x.message; taken = x ∷ l.taken }) l in after)
      (fits_from space v x.message (message_fits old v k q x is taking.queue taking.nth)) in
      log_after l (happens space v l (Take x.sender x.message)) o p b b log
      (ap (λ (z : Log). z.owner) takes
      ∙ (ap (λ w. took space w x.message) log.owner
      ∙ (ap (λ s. took s (under o b) x.message) (sym (owner_space owner old v o is taking.at)) ∙ sym (taking.after b))))
      (ap (λ (z : Log). z.expansions) takes) taking.space taking.expansions

  queues_after : (old : WorldOf S) (v k : ℕ) (q : List Packet) (world : World) → Shows owner old world → At old.underway v q
      → (u : ℕ) (ps : List Packet) → At (slice_set old.underway v (remove q k)) u ps
      → packets_to (space_in owner old) u (without_nth_to (space_in owner old) v k world.underway) ≡ ps
  queues_after old v k q world shows queue u ps there =
      let space = space_in owner old in
      ⊎_elim
      (λ (h : (u ≡ v) × (remove q k ≡ ps)). subst (λ z. packets_to space z (without_nth_to space v k world.underway) ≡ ps) (sym h.0)
      (without_here space v k world.underway ∙ (ap (λ z. remove z k) (shows.underway v q queue) ∙ h.1)))
      (λ (h : (u ≢ v) × At old.underway u ps). without_there space u v k world.underway h.0 ∙ shows.underway u ps h.1)
      (at_set old.underway v (remove q k) u ps there)

  rests_after : (old : WorldOf S) (v : ℕ) (world : World) → Shows owner old world → (u : ℕ) (r : Bool) → At (slice_set old.resting v false) u r
      → put world.resting v false u ≡ r
  rests_after old v world shows u r at = ⊎_elim
      (λ (h : (u ≡ v) × (false ≡ r)). put_cases world.resting v false u (λ y. y ≡ r) (λ _. h.1)
      (λ ne. absurd (eqb-false u v ne h.0)))
      (λ (h : (u ≢ v) × At old.resting u r). put_cases world.resting v false u (λ y. y ≡ r) (λ e. absurd (h.0 e))
      (λ _. shows.resting u r h.1))
      (at_set old.resting v false u r at)

  pub deliver_done : (old : WorldOf S) (v k : ℕ) (o p : OwnerOf S) (b : Distance) (q : List Packet) (x : Packet) → IsWorld owner old
      → IsTaking old v k o p b q x → IsStepDone owner old (with_taken old v p (remove q k)) (Deliver v k) true
  deliver_done old v k o p b q x is taking =
      let space = space_in owner old in
      let new = with_taken old v p (remove q k) in
      let short : k < length q = get_below q k x taking.nth in
      record {
        stepped = λ world shows.
            let nth : nth_to space v k world.underway ≡ Some x = nth_is_there space v k world.underway
            ∙ (ap (λ z. slice_get z k) (shows.underway v q taking.queue) ∙ taking.nth) in
            record {
              step = Delivers v k;
              does = refl;
              shown = subst (Shows owner new) (sym (ap (delivered space world v k) nth))
                  (shown owner old new world v (happens space v (world.logs v) (Take x.sender x.message)) (without_nth_to space v k world.underway)
                  world.bound (put world.resting v false) shows refl (length-set old.owners v p)
                  (here_one owner old v p b (happens space v (world.logs v) (Take x.sender x.message)) taking.seen
                  (log_taken old v k o p b q x world is shows taking))
                  (there_one owner old v p)
                  (λ le. let lt = at_below old.owners v o taking.at in absurd (omega arith))
                  (queues_after old v k q world shows taking.queue)
                  shows.bound (rests_after old v world shows));
            };
        changed_is = sym (ap (λ (z : List Packet). nat_lt k (length z)) (at_list old.underway v q taking.queue) ∙ lt-ltb k (length q) short);
        unchanged = λ e. absurd (true≢false e);
        limited = refl;
        space = refl;
        owners = length-set old.owners v p;
      }

  taken_outboxes : (old : WorldOf S) (v k : ℕ) (o p : OwnerOf S) (b : Distance) (q : List Packet) (x : Packet) → IsTaking old v k o p b q x
      → length p.outboxes ≡ length o.outboxes
  taken_outboxes old v k o p b q x taking = ap (λ (w : Owner). length w.outboxes) (taking.after b)

  kept_queues : (old : WorldOf S) (v k : ℕ) (q : List Packet) → IsWorld owner old → At old.underway v q
      → (u : ℕ) (ps : List Packet) → At (slice_set old.underway v (remove q k)) u ps → All (λ p. IsMessageTo (space_in owner old) u p.message) ps
  kept_queues old v k q is queue u ps there =
      let space = space_in owner old in
      ⊎_elim
      (λ (h : (u ≡ v) × (remove q k ≡ ps)). subst (λ zs. All (λ z. IsMessageTo space u z.message) zs) h.1
      (subst (λ n. All (λ z. IsMessageTo space n z.message) (remove q k)) (sym h.0)
      (all_remove (λ (z : Packet). IsMessageTo space v z.message) q k (is.messages v q queue))))
      (λ (h : (u ≢ v) × At old.underway u ps). is.messages u ps h.1)
      (at_set old.underway v (remove q k) u ps there)

  pub deliver_kept : (old : WorldOf S) (v k : ℕ) (o p : OwnerOf S) (b : Distance) (q : List Packet) (x : Packet) → IsWorld owner old
      → IsTaking old v k o p b q x → IsWorld owner (with_taken old v p (remove q k))
  deliver_kept old v k o p b q x is taking =
      let new = with_taken old v p (remove q k) in
      kept owner old new is refl (length-set old.owners v p) (length-set old.underway v (remove q k)) refl (length-set old.resting v false)
      (one_owner owner old v o p taking.at taking.space taking.worker (taken_outboxes old v k o p b q x taking))
      (kept_queues old v k q is taking.queue)
      (run_after owner old new (Deliver v k) true (deliver_done old v k o p b q x is taking) is)

  -- ---- there is no memory to take it
  pub deliver_refused : (old : WorldOf S) (v k : ℕ) (q : List Packet) → At old.underway v q → k < length q
      → IsStepRefused owner old old (Deliver v k) OutOfMemory
  deliver_refused old v k q queue short = refused_whole owner old (Deliver v k)
      (ap (λ (z : List Packet). nat_lt k (length z)) (at_list old.underway v q queue) ∙ lt-ltb k (length q) short)
