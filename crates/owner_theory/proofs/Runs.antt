-- Every owner's run keeps its invariants.
use Rattle.std.proofs.Common.{replicate, length-set, ◌≡◌, ◌⊎◌, ℕ, zero, suc, ◌+◌, Bool, true, false, ◌==◌, List, [], ◌∷◌, Option, Some, None, refl, sym, ap, ◌∙◌, subst, inl, inr, ⊎_elim, arith, true≢false, cond}
use Rattle.std.specs.Prelude.{slice_get, slice_set}
use Rattle.std.proofs.lemmas.Bool.{cond_both, and_parts, eqb-true, eq-eqb}
use Rattle.std.proofs.lemmas.List.{length-replicate}
use Rattle.cost.specs.Distances.{Distance, Finite, Infinite, ◌≤ᵈ◌, lesser}
use Rattle.cost.proofs.DistanceLaws.{at_most_itself, lesser_at_most_left, lesser_at_most_right, at_most_lesser}
use Rattle.fdr.specs.Tasks.{ranges, IsTask, IsState, is_goal_state, cost_of}
use Rattle.checker_clauses.specs.Clauses.{is_state}
use Rattle.checker_clauses.proofs.ClauseLaws.{is_state_tells}
use Rattle.owner_theory.specs.Owners.{At, list_at, SearchSpace, Parent, Message, Node, Packet, Owner, Log, Event, Take, Expand, HandOut, Look, Offer, treat_all, successors, marked, mark_node, may_expand, expanded_at, count_at, fits, handed_out, happens, first_node, start_owner, run, IsRun}
use Rattle.owner_theory.specs.Families.{IsSearchSpace, In}
use Rattle.owner_theory.proofs.Nodes.{rank_refl, grows_refl, grows_has, mark_at, mark_there, mark_grows, mark_apart}
use Rattle.owner_theory.proofs.Owners.{IsMade, Later, later_trans, Came, later_came, IsOurs, grows_ours, Core, Treated, later_treated, Did, Good, Quiet, quiet_good, after_taking, took_quiet, at_owner, treat_all_quiet}
use Rattle.owner_theory.proofs.Lists.{at_get, in_cons, set_cases}
use Rattle.owner_theory.proofs.States.{step_is_state}
use Rattle.owner_theory.proofs.Successors.{successor_is}

-- ---- taking
pub take_good : (S : SearchSpace) (me : ℕ) (l : Log) (from : ℕ) (m : Message) → Good S me l → Good S me
    (happens S me l (Take from m))
take_good S me l from m h =
    let p : Packet = record { sender = from; message = m } in
    cond_both (fits S me m) (after_taking S l m (p ∷ l.taken)) l (Good S me)
    (λ ok. let parts = and_parts (is_state (ranges S.task) m.state) (S.owner_of m.state == me) ok in
    quiet_good S me l (after_taking S l m (p ∷ l.taken)) h
    (took_quiet S me l m (p ∷ l.taken) h.core (λ q in_old. in_cons q p l.taken in_old) new
    (is_state_tells (ranges S.task) m.state parts.0) (eqb-true (S.owner_of m.state) me parts.1)
    (inr (from, (zero, refl)))))
    (λ _. h)
  where
    new : (i : ℕ) (q : Packet) → At (record { sender = from; message = m } ∷ l.taken) i q → In q l.taken ⊎ (q.message ≡ m)
    new zero q at = inr (sym (ap (λ (x : Packet). x.message) at))
    new (suc i) q at = inl (i, at)

-- ---- expanding
came_marked : (S : SearchSpace) (me : ℕ) (l : Log) (e : Node) (o : Option Parent) → Came S me l e o → Came S me l (marked e) o
came_marked S me l e None c = c
came_marked S me l e (Some p) c = c

mark_core : (S : SearchSpace) (me : ℕ) (l : Log) (i : ℕ) (e : Node) → At l.owner.nodes i e → Core S me l → Core S me
    (at_owner l (mark_node l.owner i e)) × Later S l (at_owner l (mark_node l.owner i e))
mark_core S me l i e at c = (
  record {
    own = λ j x h. ⊎_elim (λ (q : (j ≡ i) × (marked e ≡ x)). subst
        (λ (z : Node). IsState (ranges S.task) z.state × (S.owner_of z.state ≡ me)) q.1 (c.own i e at))
        (λ (q : At l.owner.nodes j x). c.own j x q) (mark_at l.owner.nodes i (marked e) j x h);
    apart = mark_apart l.owner.nodes i e at c.apart;
    came = λ j x h. ⊎_elim (λ (q : (j ≡ i) × (marked e ≡ x)). subst (λ (z : Node). Came S me l' z z.parent) q.1
        (came_marked S me l' e e.parent (later_came S me l l' e e.parent later (c.came i e at))))
        (λ (q : At l.owner.nodes j x). later_came S me l l' x x.parent later (c.came j x q))
        (mark_at l.owner.nodes i (marked e) j x h);
    goal = λ j x h. ⊎_elim (λ (q : (j ≡ i) × (marked e ≡ x)). subst
        (λ (z : Node). is_goal_state S.task z.state ≡ true → l.owner.best ≤ᵈ Finite z.cost) q.1 (c.goal i e at))
        (λ (q : At l.owner.nodes j x). c.goal j x q) (mark_at l.owner.nodes i (marked e) j x h);
    best = λ b is. let (j, x, x_at, is', le) = c.best b is
        in let (y, y_at, y_state, y_rank) = mark_grows l.owner.nodes i e at j x x_at in
        (j, y, y_at, ap (is_goal_state S.task) y_state ∙ is', let r = y_rank.cost in omega arith);
    offered = c.offered;
    bound = c.bound;
    taken = λ j p h. let (has, own) = c.taken j p h in
        (grows_has l.owner.nodes (slice_set l.owner.nodes i (marked e)) p.message.state p.message.cost later.grows has, own);
    ours = λ k made. grows_ours S me l.owner.nodes (slice_set l.owner.nodes i (marked e)) k later.grows (c.ours k made);
    queued = c.queued;
    width = c.width;
    begun = λ is. grows_has l.owner.nodes (slice_set l.owner.nodes i (marked e)) S.task.initial 0 later.grows (c.begun is);
  },
  later,
)
  where
    l' : Log
    l' = at_owner l (mark_node l.owner i e)

    later : Later S l (at_owner l (mark_node l.owner i e))
    later = record { grows = mark_grows l.owner.nodes i e at; made = λ k h. h; taken = λ p h. h; seen = at_most_itself l.seen }

-- the successors of a node are born of it
born_of : (S : SearchSpace) (me : ℕ) (ns : List Node) (i : ℕ) (n : Node) → IsTask S.task → At ns i n → IsState
    (ranges S.task) n.state
    → (m : Message) → In m (successors S.task me i n) → IsOurs S me ns m
born_of S me ns i n ok at st m there =
    let (o, t, leads, same) = successor_is S.task me i n m there in
    subst (IsOurs S me ns) same (record {
      born = record { origin = n; at = at; leads = leads; rank = rank_refl (n.cost + cost_of S.task o) (suc n.steps) };
      worker = refl;
      fits = step_is_state S.task n.state t o ok st leads;
    })

expand_good : (S : SearchSpace) (me : ℕ) (l : Log) (i : ℕ) (e : Node) → IsSearchSpace S → At l.owner.nodes i e → Good S me l
    → Good S me (at_owner l (expanded_at S me l.owner i (Some e)))
expand_good S me l i e ok at h =
    let ms = successors S.task me i e in
    let l1 = at_owner l (mark_node l.owner i e) in
    let l2 = at_owner l (treat_all S me l1.owner ms) in
    let mark = mark_core S me l i e at h.core in
    let there : At l1.owner.nodes i (marked e) = mark_there l.owner.nodes i (marked e) e at in
    let all = treat_all_quiet S me ms l1 ok.owner mark.0
    (born_of S me l1.owner.nodes i (marked e) ok.task there (h.core.own i e at).0) in
    cond_both (may_expand S l.owner e) l2.owner l.owner (λ (o : Owner). Good S me (at_owner l o))
    (λ _. record { core = all.0.core; did = did l2 all.0 mark.1 all.1 })
    (λ _. h)
  where
    did : (l2 : Log) → Quiet S me (at_owner l (mark_node l.owner i e)) l2 → Later S l (at_owner l (mark_node l.owner i e))
        → ((m : Message) → In m (successors S.task me i e) → Treated S l2 m) → Did S me l2
    did l2 q later all j x x_at done m there =
        ⊎_elim
        (λ (same : (j ≡ i) × (marked e ≡ x)). all m (subst (λ (k : ℕ). In m (successors S.task me k e)) same.0
        (subst (λ (z : Node). In m (successors S.task me j z)) (sym same.1) there)))
        (λ (old : At l.owner.nodes j x). later_treated S l l2 m
        (later_trans S l (at_owner l (mark_node l.owner i e)) l2 later q.later) (h.did j x old done m there))
        (mark_at l.owner.nodes i (marked e) j x (q.still j x x_at done))

expand_or_not : (S : SearchSpace) (me : ℕ) (l : Log) (i : ℕ) (o : Option Node) → slice_get l.owner.nodes i ≡ o
    → IsSearchSpace S → Good S me l → Good S me (at_owner l (expanded_at S me l.owner i o))
expand_or_not S me l i None is ok h = h
expand_or_not S me l i (Some e) is ok h = expand_good S me l i e ok (at_get l.owner.nodes i e is) h

-- ---- handing out
hand_good : (S : SearchSpace) (me v : ℕ) (l : Log) (q : List Message) → list_at l.owner.outboxes v ≡ q → Good S me l
    → Good S me (handed_out v l q)
hand_good S me v l [] is h = h
hand_good S me v l (m ∷ ms) is h = quiet_good S me l l' h (record {
  core = record {
    own = c.own;
    apart = c.apart;
    came = λ i e at. later_came S me l l' e e.parent later (c.came i e at);
    goal = c.goal;
    best = c.best;
    offered = c.offered;
    bound = c.bound;
    taken = c.taken;
    begun = c.begun;
    width = length-set l.owner.outboxes v ms ∙ c.width;
    queued = λ u i k. set_cases l.owner.outboxes v ms u (λ (q : List Message). At q i k → S.owner_of k.state ≡ u)
        (λ e at. c.queued v (suc i) k (subst (λ q. At q (suc i) k) (sym is) at) ∙ sym e)
        (λ at. c.queued u i k at);
    ours = λ k made. c.ours k (back k made);
  };
  later = later;
  still = λ i e at done. at;
})
  where
    c : Core S me l
    c = h.core

    l' : Log
    l' = handed_out v l (m ∷ ms)

    in_tail : (k : Message) → In k (m ∷ ms) → In k ms ⊎ In k (m ∷ l.handed)
    in_tail k (zero, at) = inr (zero, at)
    in_tail k (suc i, at) = inl (i, at)

    later : Later S l (handed_out v l (m ∷ ms))
    later = record {
      grows = grows_refl l.owner.nodes;
      made = λ k made. ⊎_elim
          (λ (q : In k (list_at l.owner.outboxes (S.owner_of k.state))). set_cases l.owner.outboxes v ms
          (S.owner_of k.state) (λ (x : List Message). In k x ⊎ In k (m ∷ l.handed))
          (λ e. in_tail k (subst (In k) is (subst (λ n. In k (list_at l.owner.outboxes n)) e q)))
          (inl q))
          (λ (q : In k l.handed). inr (in_cons k m l.handed q)) made;
      taken = λ p q. q;
      seen = at_most_itself l.seen;
    }

    head : In m (list_at l.owner.outboxes v)
    head = (zero, subst (λ q. At q zero m) (sym is) refl)

    handed_cases : (k : Message) → In k (m ∷ l.handed) → IsMade S l k
    handed_cases k (zero, at) = subst (IsMade S l) at
        (inl (subst (λ n. In m (list_at l.owner.outboxes n)) (sym (c.queued v head.0 m head.1)) head))
    handed_cases k (suc i, at) = inr (i, at)

    back : (k : Message) → IsMade S (handed_out v l (m ∷ ms)) k → IsMade S l k
    back k made = ⊎_elim
        (λ (q : In k (list_at (slice_set l.owner.outboxes v ms) (S.owner_of k.state))). inl
        (set_cases l.owner.outboxes v ms (S.owner_of k.state)
        (λ (x : List Message). In k x → In k (list_at l.owner.outboxes (S.owner_of k.state)))
        (λ e r. subst (λ n. In k (list_at l.owner.outboxes n)) (sym e) (subst (In k) (sym is) (in_cons k m ms r)))
        (λ r. r) q))
        (λ (q : In k (m ∷ l.handed)). handed_cases k q) made

-- ---- reading, offering and counting
-- the log with other bounds read, another least cost offered, and another number of expansions
abbrev noted : Log → Distance → Distance → Distance → ℕ → Log
noted l bound seen offered expansions =
    record l { owner = record l.owner { bound = bound }; seen = seen; offered = offered; expansions = expansions }

noted_good : (S : SearchSpace) (me : ℕ) (l : Log) (bound seen offered : Distance) (expansions : ℕ) → seen ≤ᵈ l.seen → seen ≤ᵈ bound
    → l.owner.best ≤ᵈ offered → Good S me l → Good S me (noted l bound seen offered expansions)
noted_good S me l bound seen offered expansions less below above h = quiet_good S me l (noted l bound seen offered expansions) h (record {
  core = record {
    own = h.core.own;
    apart = h.core.apart;
    came = λ i e at. later_came S me l (noted l bound seen offered expansions) e e.parent later (h.core.came i e at);
    goal = h.core.goal;
    best = h.core.best;
    offered = above;
    bound = below;
    taken = h.core.taken;
    ours = h.core.ours;
    begun = h.core.begun;
    queued = h.core.queued;
    width = h.core.width;
  };
  later = later;
  still = λ i e at done. at;
})
  where
    later : Later S l (noted l bound seen offered expansions)
    later = record { grows = grows_refl l.owner.nodes; made = λ k q. q; taken = λ p q. q; seen = less }

expand_event_good : (S : SearchSpace) (me : ℕ) (l : Log) (i : ℕ) → IsSearchSpace S → Good S me l → Good S me (happens S me l (Expand i))
expand_event_good S me l i ok h =
    let after = at_owner l (expanded_at S me l.owner i (slice_get l.owner.nodes i)) in
    let good_after : Good S me after = expand_or_not S me l i (slice_get l.owner.nodes i) refl ok h in
    noted_good S me after after.owner.bound l.seen l.offered (l.expansions + count_at S l.owner (slice_get l.owner.nodes i)) (at_most_itself l.seen)
    good_after.core.bound good_after.core.offered good_after

look_good : (S : SearchSpace) (me : ℕ) (l : Log) (b : Distance) → Good S me l → Good S me (happens S me l (Look b))
look_good S me l b h =
    noted_good S me l b (lesser l.seen b) l.offered l.expansions (lesser_at_most_left l.seen b) (lesser_at_most_right l.seen b) h.core.offered h

offer_good : (S : SearchSpace) (me : ℕ) (l : Log) → Good S me l → Good S me (happens S me l Offer)
offer_good S me l h =
    noted_good S me l l.owner.bound l.seen (lesser l.offered l.owner.best) l.expansions (at_most_itself l.seen) h.core.bound
    (at_most_lesser l.owner.best l.offered l.owner.best h.core.offered (at_most_itself l.owner.best)) h

-- ---- the beginning
none_boxed : (n v : ℕ) → list_at {X = Message} (replicate n []) v ≡ []
none_boxed zero v = refl
none_boxed (suc n) zero = refl
none_boxed (suc n) (suc v) = none_boxed n v

abbrev begun : Owner → Log
begun o = record { owner = o; taken = []; handed = []; seen = Infinite; offered = Infinite; expansions = 0 }

start_goal : (b : Bool) → b ≡ true → cond b (Finite 0) Infinite ≤ᵈ Finite 0
start_goal true e = omega arith
start_goal false e = absurd (true≢false (sym e))

start_best : (b : Bool) (n : ℕ) → cond b (Finite 0) Infinite ≡ Finite n → b ≡ true
start_best true n e = refl
start_best false n e = absurd (cc)

start_good : (S : SearchSpace) (me : ℕ) (mine : Bool) → IsSearchSpace S → (S.owner_of S.task.initial == me) ≡ mine
    → Good S me (begun (start_owner S mine))
start_good S me true ok is = record {
  core = record {
    own = own;
    apart = ((λ j e at eq. at), tt);
    came = came;
    goal = goal;
    best = λ b e. (zero, first_node S, refl, start_best (is_goal_state S.task S.task.initial) b e, omega arith);
    offered = tt;
    bound = tt;
    taken = λ i p at. absurd at;
    queued = λ v i m at. absurd (subst (λ q. At q i m) (none_boxed S.owners v) at);
    width = length-replicate S.owners [];
    begun = λ same. (zero, first_node S, refl, refl, omega arith);
    ours = λ k made. ⊎_elim (λ (q : In k (list_at (replicate S.owners []) (S.owner_of k.state))). absurd
        (subst (In k) (none_boxed S.owners (S.owner_of k.state)) q).1) (λ (q : In k []). absurd q.1) made;
  };
  did = did;
}
  where
    own : (i : ℕ) (e : Node) → At (first_node S ∷ []) i e → IsState (ranges S.task) e.state × (S.owner_of e.state ≡ me)
    own zero e at = subst (λ (z : Node). IsState (ranges S.task) z.state × (S.owner_of z.state ≡ me)) at
        (ok.task.initial, eqb-true (S.owner_of S.task.initial) me is)
    own (suc i) e at = absurd at

    came : (i : ℕ) (e : Node) → At (first_node S ∷ []) i e → Came S me (begun (start_owner S true)) e e.parent
    came zero e at = subst (λ (z : Node). Came S me (begun (start_owner S true)) z z.parent) at refl
    came (suc i) e at = absurd at

    goal : (i : ℕ) (e : Node) → At (first_node S ∷ []) i e → is_goal_state S.task e.state ≡ true → cond
        (is_goal_state S.task S.task.initial) (Finite 0) Infinite ≤ᵈ Finite e.cost
    goal zero e at = subst (λ (z : Node). is_goal_state S.task z.state ≡ true → cond (is_goal_state S.task S.task.initial)
        (Finite 0) Infinite ≤ᵈ Finite z.cost) at (start_goal (is_goal_state S.task S.task.initial))
    goal (suc i) e at = absurd at

    did : Did S me (begun (start_owner S true))
    did zero e at done = absurd (true≢false (sym done ∙ sym (ap (λ (z : Node). z.expanded) at)))
    did (suc i) e at done = absurd at
start_good S me false ok is = record {
  core = record {
    own = λ i e at. absurd at;
    apart = tt;
    came = λ i e at. absurd at;
    goal = λ i e at. absurd at;
    best = λ b e. absurd (cc);
    offered = tt;
    bound = tt;
    taken = λ i p at. absurd at;
    queued = λ v i m at. absurd (subst (λ q. At q i m) (none_boxed S.owners v) at);
    width = length-replicate S.owners [];
    begun = λ same. absurd (true≢false (sym (eq-eqb (S.owner_of S.task.initial) me same) ∙ is));
    ours = λ k made. ⊎_elim (λ (q : In k (list_at (replicate S.owners []) (S.owner_of k.state))). absurd
        (subst (In k) (none_boxed S.owners (S.owner_of k.state)) q).1) (λ (q : In k []). absurd q.1) made;
  };
  did = λ i e at. absurd at;
}

-- every run keeps them
event_good : (S : SearchSpace) (me : ℕ) (l : Log) (e : Event) → IsSearchSpace S → Good S me l → Good S me (happens S me l e)
event_good S me l (Take from m) ok h = take_good S me l from m h
event_good S me l (Expand i) ok h = expand_event_good S me l i ok h
event_good S me l (HandOut v) ok h = hand_good S me v l (list_at l.owner.outboxes v) refl h
event_good S me l (Look b) ok h = look_good S me l b h
event_good S me l Offer ok h = offer_good S me l h

pub run_good : (S : SearchSpace) (me : ℕ) (es : List Event) → IsSearchSpace S → Good S me (run S me es)
run_good S me [] ok = start_good S me (S.owner_of S.task.initial == me) ok refl
run_good S me (e ∷ es) ok = event_good S me (run S me es) e ok (run_good S me es ok)

pub good : (S : SearchSpace) (me : ℕ) (l : Log) → IsSearchSpace S → IsRun S me l → Good S me l
good S me l ok r = subst (Good S me) r.1 (run_good S me r.0 ok)
