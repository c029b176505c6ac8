-- A team of which one worker was asked to expand a node.
use Rattle.std.proofs.Common.{◌≡◌, ◌≢◌, ℕ, zero, suc, ◌<◌, false, List, [], ◌∷◌, length, map, get_or, Option, Some, None, refl, sym, ap, ◌∙◌, subst, ⊎_elim, arith}
use Rattle.std.specs.Prelude.{slice_set}
use Rattle.std.proofs.lemmas.List.{length-set}
use Rattle.cost.specs.Distances.{Distance, Infinite, ◌≤ᵈ◌, lesser, least}
use Rattle.cost.proofs.DistanceLaws.{at_most_itself, at_most_both, at_most_infinite, at_most_lesser, lesser_right}
use Rattle.board.specs.declared.views.View.{View}
use Rattle.board.specs.Rule.{first_view, with_seen, with_offered}
use Rattle.owner_theory.specs.Owners.{At}
use Rattle.owner_theory.proofs.Lists.{at_once}
use Rattle.owner.specs.declared.fault.OwnerFault.{OwnerFault}
use Rattle.owner.specs.declared.fault.OwnerFault.TheVariants.{OutOfMemory, TotalTooLarge, LimitReached}
use Rattle.owner.specs.Owned.{OwnerOf, IsExpansion, IsRefusal}
use Rattle.extract.proofs.Places.{at_below, at_read}
use Rattle.worker.specs.Workers.{WorkerOf, AreSameIns, sent_to}
use Rattle.worker.specs.Turns.{HasLooked, HasExpanded, IsExpandRefusal}
use Rattle.worker.proofs.Rows.{ins_same}
use Rattle.engine.specs.Teams.{TeamOf, IsTeam, AreAllLinked}
use Rattle.engine.specs.Asking.{HasAnswered, WasAsked, AreAsked, IsAsked}
use Rattle.engine.proofs.Places.{at_set, at_here}
use Rattle.engine.proofs.Members.{Keeps, members_kept, set_kept, set_linked}

pub limit_not_memory : LimitReached ≢ OutOfMemory
limit_not_memory e = absurd (cc)

pub total_not_memory : TotalTooLarge ≢ OutOfMemory
total_not_memory e = absurd (cc)

-- a bound that is read at a board where this alone was offered: the views of the seat at the start, after the offer, and after it was read
bound_is : (offered bound : Distance) (u v w : View) → u ≡ first_view → v ≡ with_offered u (lesser u.offered offered) → w ≡ with_seen v bound
    → bound ≤ᵈ v.offered → w.offered ≤ᵈ w.seen → bound ≡ offered
bound_is offered bound u v w first offers looks below closes =
    let now : v.offered ≡ offered = ap (λ (x : View). x.offered) offers
    ∙ (ap (λ (x : View). lesser x.offered offered) first ∙ lesser_right Infinite offered (at_most_infinite offered)) in
    let later : w.offered ≡ offered = ap (λ (x : View). x.offered) looks ∙ now in
    let seen : w.seen ≡ bound = ap (λ (x : View). x.seen) looks in
    at_most_both bound offered (subst (λ (d : Distance). bound ≤ᵈ d) now below)
    (subst (λ (d : Distance). offered ≤ᵈ d) seen (subst (λ (d : Distance). d ≤ᵈ w.seen) later closes))

pub told_bound : {S F : Type 0} (offered : Distance) (old new : WorkerOf S F) (u v w : View) → u ≡ first_view → v ≡ with_offered u (lesser u.offered offered)
    → HasLooked old new v w → w.offered ≤ᵈ w.seen → new ≡ record old { bound = offered; seen = lesser old.seen offered }
told_bound offered old new u v w first offers looked closes =
    looked.worker
    ∙ ap (λ (d : Distance). record old { bound = d; seen = lesser old.seen d })
    (bound_is offered new.bound u v w first offers looked.view looked.falls.1 closes)

module _ {S : Type 0} (owner : S → List ℕ → ℕ → ℕ) where
  -- an owner that answers keeps its space and its number
  expansion_keeps : (bound : Distance) (o p : OwnerOf S) (posted : Option ℕ) → IsExpansion owner bound o p posted
      → (p.space ≡ o.space) × (p.worker ≡ o.worker)
  expansion_keeps bound o p None e = (ap (λ (q : OwnerOf S). q.space) e.1, ap (λ (q : OwnerOf S). q.worker) e.1)
  expansion_keeps bound o p (Some n) e = (e.space, e.worker)

module _ {S F : Type 0} (owner : S → List ℕ → ℕ → ℕ) where
  answer_keeps : (bound : Distance) (a b : WorkerOf S F) (refused : Option OwnerFault) → HasAnswered owner bound a b refused
      → (b.owner.space ≡ a.owner.space) × (b.owner.worker ≡ a.owner.worker)
  answer_keeps bound a b None h = expansion_keeps owner bound a.owner b.owner h.0 h.1
  answer_keeps bound a b (Some fault) h = (ap (λ (q : OwnerOf S). q.space) h.2, ap (λ (q : OwnerOf S). q.worker) h.2)

  -- ---- one worker of a list is asked: as it was, told the bound, after its owner has answered, and when it begins a round
  module _ (number : ℕ) (bound : Distance) (ws : List (WorkerOf S F)) (a t m b : WorkerOf S F) (lt : number < length ws) (is : a ≡ get_or ws number a)
      (told : t ≡ record a { bound = bound; seen = lesser a.seen bound }) (begun : b ≡ record m { resting = false; uncounted = 0; taken = 0 })
    where
      owner_is : b.owner ≡ m.owner
      owner_is = ap (λ (w : WorkerOf S F). w.owner) begun

      pub expanded_asked : (posted : Option ℕ) → HasExpanded owner t m posted → AreAsked owner number bound ws (slice_set ws number b) None
      expanded_asked posted has =
          let h : HasExpanded owner (record a { bound = bound; seen = lesser a.seen bound }) m posted =
          subst (λ (x : WorkerOf S F). HasExpanded owner x m posted) told has in
          record {
            before = a;
            after = b;
            there = at_read ws number a lt is;
            put = refl;
            answered = (posted, subst (λ (o : OwnerOf S). IsExpansion owner bound a.owner o posted) (sym owner_is) h.expansion);
            worker = subst (λ (x : WorkerOf S F). WasAsked bound a x) (sym begun)
                (ap (λ (x : WorkerOf S F). record x { resting = false; uncounted = 0; taken = 0 }) h.worker);
          }

      pub refused_asked : (fault : OwnerFault) → fault ≢ OutOfMemory → IsExpandRefusal owner t m fault
          → AreAsked owner number bound ws (slice_set ws number b) (Some fault)
      refused_asked fault memory has =
          let before : WorkerOf S F = record a { bound = bound; seen = lesser a.seen bound } in
          let h : IsExpandRefusal owner before m fault = subst (λ (x : WorkerOf S F). IsExpandRefusal owner x m fault) told has in
          record {
            before = a;
            after = b;
            there = at_read ws number a lt is;
            put = refl;
            answered = (
              subst (λ (o : OwnerOf S). IsRefusal owner bound a.owner o fault) (sym owner_is) h.0,
              memory,
              owner_is ∙ ap (λ (w : WorkerOf S F). w.owner) h.1,
            );
            worker = subst (λ (x : WorkerOf S F). WasAsked bound a x) (sym begun)
                (ap (λ (x : WorkerOf S F). record x { resting = false; uncounted = 0; taken = 0 })
                (subst (λ (x : WorkerOf S F). x ≡ record before { owner = x.owner }) (sym h.1) refl));
          }

  module _ (number : ℕ) (old : TeamOf S F) (new : List (WorkerOf S F)) (refused : Option OwnerFault)
      (asked : AreAsked owner number old.best old.workers new refused)
    where
      keeps : Keeps asked.before asked.after
      keeps =
          let kept = answer_keeps old.best asked.before asked.after refused asked.answered in
          record {
            member = λ space n v is. record {
              space = kept.0 ∙ is.space;
              number = kept.1 ∙ is.number;
              outs = ap (λ (w : WorkerOf S F). length w.outs) asked.worker ∙ is.outs;
              ins = ap (λ (w : WorkerOf S F). length w.ins) asked.worker ∙ is.ins;
              counted = ap (λ (w : WorkerOf S F). w.uncounted) asked.worker;
            };
            sent = λ values to. ap (λ (w : WorkerOf S F). sent_to values w.outs to) asked.worker;
          }

      linked : AreAllLinked old.workers → AreAllLinked (slice_set old.workers number asked.after)
      linked = set_linked old.workers number asked.before asked.after asked.there (ap (λ (w : WorkerOf S F). w.outs) asked.worker)
          (subst (AreSameIns asked.before.ins) (sym (ap (λ (w : WorkerOf S F). w.ins) asked.worker)) (ins_same asked.before.ins))

      -- the same costs were offered
      offered_kept : (ws : List (WorkerOf S F)) (v : ℕ) (a b : WorkerOf S F) → At ws v a → b.offered ≡ a.offered
          → map (λ w. w.offered) (slice_set ws v b) ≡ map (λ w. w.offered) ws
      offered_kept [] v a b at same = absurd at
      offered_kept (w ∷ ws) zero a b at same =
          ap (λ (d : Distance). d ∷ map (λ (x : WorkerOf S F). x.offered) ws) (same ∙ ap (λ (x : WorkerOf S F). x.offered) (sym at))
      offered_kept (w ∷ ws) (suc v) a b at same = ap (λ (ds : List Distance). w.offered ∷ ds) (offered_kept ws v a b at same)

      bounded : IsTeam old → (v : ℕ) (w : WorkerOf S F) → At (slice_set old.workers number asked.after) v w → old.best ≤ᵈ w.seen
      bounded team v w at = ⊎_elim
          (λ (h : (v ≡ number) × (asked.after ≡ w)).
          subst (λ (x : WorkerOf S F). old.best ≤ᵈ x.seen) h.1
          (subst (λ (d : Distance). old.best ≤ᵈ d) (sym (ap (λ (x : WorkerOf S F). x.seen) asked.worker))
          (at_most_lesser old.best asked.before.seen old.best (team.bounded number asked.before asked.there) (at_most_itself old.best))))
          (λ (h : (v ≢ number) × At old.workers v w). team.bounded v w h.1)
          (at_set old.workers number asked.after v w at)

      -- it is a team after that
      pub asked_team : IsTeam old → IsTeam (record { space = old.space; workers = new; best = old.best })
      asked_team team =
          let long = length-set old.workers number asked.after in
          let have = set_kept old.workers number asked.before asked.after asked.there keeps in
          subst (λ (ws : List (WorkerOf S F)). IsTeam (record { space = old.space; workers = ws; best = old.best })) (sym asked.put) (record {
            some = omega (arith, team.some, long);
            members = members_kept old.workers (slice_set old.workers number asked.after) have old.space team.members (linked team.members.links);
            best = team.best ∙ ap least (sym (offered_kept old.workers number asked.before asked.after asked.there (ap (λ (w : WorkerOf S F). w.offered) asked.worker)));
            bounded = bounded team;
          })

      -- the worker that was asked, before and after
      before_is : (a : WorkerOf S F) → At old.workers number a → asked.before ≡ a
      before_is a at = at_once old.workers number asked.before a asked.there at

      after_is : (b : WorkerOf S F) → At new number b → asked.after ≡ b
      after_is b at = at_once (slice_set old.workers number asked.after) number asked.after b
          (at_here old.workers number asked.after (at_below old.workers number asked.before asked.there))
          (subst (λ (ws : List (WorkerOf S F)). At ws number b) asked.put at)

      pub asked_is : IsAsked owner number old (record { space = old.space; workers = new; best = old.best }, refused)
      asked_is = record {
        space = refl;
        best = refl;
        count = ap length asked.put ∙ length-set old.workers number asked.after;
        answered = λ a b at_a at_b.
            subst (λ (x : WorkerOf S F). HasAnswered owner old.best a x refused) (after_is b at_b)
            (subst (λ (x : WorkerOf S F). HasAnswered owner old.best x asked.after refused) (before_is a at_a) asked.answered);
        worker = λ a b at_a at_b.
            subst (λ (x : WorkerOf S F). WasAsked old.best a x) (after_is b at_b)
            (subst (λ (x : WorkerOf S F). WasAsked old.best x asked.after) (before_is a at_a) asked.worker);
        others = λ v a b other at_a at_b. ⊎_elim
            (λ (h : (v ≡ number) × (asked.after ≡ b)). absurd (other h.0))
            (λ (h : (v ≢ number) × At old.workers v b). at_once old.workers v b a h.1 at_a)
            (at_set old.workers number asked.after v b (subst (λ (ws : List (WorkerOf S F)). At ws v b) asked.put at_b));
      }
