-- What every owner's run keeps.
use Rattle.std.proofs.Common.{length, length-set, ◌≡◌, ◌⊎◌, ℕ, zero, suc, ◌<◌, ◌≤◌, Bool, true, false, ◌==◌, List, [], ◌∷◌, ◌++◌, Option, Some, None, refl, sym, ap, ◌∙◌, subst, inl, inr, ⊎_elim, arith, true≢false, cond}
use Rattle.std.specs.Prelude.{slice_set}
use Rattle.std.proofs.lemmas.Bool.{cond_both, eqb-true}
use Rattle.cost.specs.Distances.{Distance, Finite, ◌≤ᵈ◌, is_at_most, lesser}
use Rattle.cost.proofs.DistanceLaws.{at_most_itself, at_most_through, is_at_most-true, lesser_at_most_left, lesser_at_most_right, lesser_one}
use Rattle.fdr.specs.Tasks.{ranges, IsState, is_goal_state}
use Rattle.owner_theory.specs.Owners.{At, list_at, posted, SearchSpace, Parent, Message, Node, Packet, Owner, Log, f_value, node_of, improve, took, treat, treat_all, successors}
use Rattle.owner_theory.specs.Families.{In}
use Rattle.owner_theory.proofs.Nodes.{Grows, Still, Apart, Has, IsBorn, grows_refl, grows_trans, grows_has, grows_born, improve_at, improve_still, improve_grows, improve_has, improve_apart}
use Rattle.owner_theory.proofs.Lists.{in_cons, in_front, in_last, snoc_cases, set_cases, set_there}

-- the owner generated the message: it is in an outbox, or was handed out
abbrev pub IsMade : SearchSpace → Log → Message → Type 0
IsMade S l m = In m (list_at l.owner.outboxes (S.owner_of m.state)) ⊎ In m l.handed

-- what only grows
pub record Later (S : SearchSpace) (l l' : Log) : Type 0 where
  pub grows : Grows l.owner.nodes l'.owner.nodes
  pub made : (m : Message) → IsMade S l m → IsMade S l' m
  pub taken : (p : Packet) → In p l.taken → In p l'.taken
  pub seen : l'.seen ≤ᵈ l.seen

pub later_refl : (S : SearchSpace) (l : Log) → Later S l l
later_refl S l = record { grows = grows_refl l.owner.nodes; made = λ m h. h; taken = λ p h. h; seen = at_most_itself l.seen }

pub later_trans : (S : SearchSpace) (a b c : Log) → Later S a b → Later S b c → Later S a c
later_trans S a b c p q = record {
  grows = grows_trans a.owner.nodes b.owner.nodes c.owner.nodes p.grows q.grows;
  made = λ m h. q.made m (p.made m h);
  taken = λ k h. q.taken k (p.taken k h);
  seen = at_most_through c.seen b.seen a.seen q.seen p.seen;
}

-- a node with this parent is the initial state, a successor within the owner, or what a taken message says
abbrev pub Came : SearchSpace → ℕ → Log → Node → Option Parent → Type 0
Came S me l e None = e.state ≡ S.task.initial
Came S me l e (Some p) = ((p.worker ≡ me) × IsBorn S.task l.owner.nodes p e.state e.cost e.steps)
    ⊎ ((from : ℕ) × In (record {
      sender = from;
      message = record
          { state = e.state; cost = e.cost; steps = e.steps; parent = p };
    }) l.taken)

pub later_came : (S : SearchSpace) (me : ℕ) (l l' : Log) (e : Node) (o : Option Parent) → Later S l l' → Came S me l e o
    → Came S me l' e o
later_came S me l l' e None h c = c
later_came S me l l' e (Some p) h c =
    ⊎_elim
    (λ (own : (p.worker ≡ me) × IsBorn S.task l.owner.nodes p e.state e.cost e.steps). inl
    (own.0, grows_born S.task l.owner.nodes l'.owner.nodes p e.state e.cost e.steps h.grows own.1))
    (λ (got : (from : ℕ) × In (record {
      sender = from;
      message = record
          { state = e.state; cost = e.cost; steps = e.steps; parent = p };
    }) l.taken). inr (got.0, h.taken _ got.1))
    c

-- a message that this owner generated
pub record IsOurs (S : SearchSpace) (me : ℕ) (ns : List Node) (m : Message) : Type 0 where
  pub born : IsBorn S.task ns m.parent m.state m.cost m.steps
  pub worker : m.parent.worker ≡ me
  pub fits : IsState (ranges S.task) m.state

pub grows_ours : (S : SearchSpace) (me : ℕ) (a b : List Node) (m : Message) → Grows a b → IsOurs S me a m → IsOurs S me b m
grows_ours S me a b m grows h = record {
  born = grows_born S.task a b m.parent m.state m.cost m.steps grows h.born;
  worker = h.worker;
  fits = h.fits;
}

-- what every owner keeps, also in the midst of an expansion
pub record Core (S : SearchSpace) (me : ℕ) (l : Log) : Type 0 where
  pub own : (i : ℕ) (e : Node) → At l.owner.nodes i e → IsState (ranges S.task) e.state × (S.owner_of e.state ≡ me)
  pub apart : Apart l.owner.nodes
  pub came : (i : ℕ) (e : Node) → At l.owner.nodes i e → Came S me l e e.parent
  pub goal : (i : ℕ) (e : Node) → At l.owner.nodes i e → is_goal_state S.task e.state ≡ true → l.owner.best ≤ᵈ Finite e.cost
  pub best : (b : ℕ) → l.owner.best ≡ Finite b → (i : ℕ) × (e : Node) × At l.owner.nodes i e
      × (is_goal_state S.task e.state ≡ true) × (e.cost ≤ b)
  pub offered : l.owner.best ≤ᵈ l.offered
  pub bound : l.seen ≤ᵈ l.owner.bound
  pub taken : (i : ℕ) (p : Packet) → At l.taken i p → Has l.owner.nodes p.message.state p.message.cost
      × (S.owner_of p.message.state ≡ me)
  pub ours : (m : Message) → IsMade S l m → IsOurs S me l.owner.nodes m
  pub width : length l.owner.outboxes ≡ S.owners
  pub queued : (v i : ℕ) (m : Message) → At (list_at l.owner.outboxes v) i m → S.owner_of m.state ≡ v
  pub begun : S.owner_of S.task.initial ≡ me → Has l.owner.nodes S.task.initial 0

-- a successor was dropped under a bound seen, or its node is there at no greater cost, or it went into an outbox
abbrev pub Treated : SearchSpace → Log → Message → Type 0
Treated S l m = (l.seen ≤ᵈ f_value S m.state m.cost) ⊎ (Has l.owner.nodes m.state m.cost ⊎ IsMade S l m)

pub later_treated : (S : SearchSpace) (l l' : Log) (m : Message) → Later S l l' → Treated S l m → Treated S l' m
later_treated S l l' m h t =
    ⊎_elim
    (λ (dropped : l.seen ≤ᵈ f_value S m.state m.cost). inl
    (at_most_through l'.seen l.seen (f_value S m.state m.cost) h.seen dropped))
    (λ (kept : Has l.owner.nodes m.state m.cost ⊎ IsMade S l m). inr (⊎_elim
    (λ (has : Has l.owner.nodes m.state m.cost). inl (grows_has l.owner.nodes l'.owner.nodes m.state m.cost h.grows has))
    (λ (made : IsMade S l m). inr (h.made m made))
    kept))
    t

-- the successors of each node expanded at its present rank were treated
abbrev pub Did : SearchSpace → ℕ → Log → Type 0
Did S me l = (i : ℕ) (e : Node) → At l.owner.nodes i e → e.expanded ≡ true → (m : Message) → In m (successors S.task me i e)
    → Treated S l m

pub record Good (S : SearchSpace) (me : ℕ) (l : Log) : Type 0 where
  pub core : Core S me l
  pub did : Did S me l

-- a change that expands nothing
pub record Quiet (S : SearchSpace) (me : ℕ) (l l' : Log) : Type 0 where
  pub core : Core S me l'
  pub later : Later S l l'
  pub still : Still l.owner.nodes l'.owner.nodes

pub quiet_good : (S : SearchSpace) (me : ℕ) (l l' : Log) → Good S me l → Quiet S me l l' → Good S me l'
quiet_good S me l l' h q = record {
  core = q.core;
  did = λ i e at done m there. later_treated S l l' m q.later (h.did i e (q.still i e at done) done m there);
}

pub quiet_refl : (S : SearchSpace) (me : ℕ) (l : Log) → Core S me l → Quiet S me l l
quiet_refl S me l c = record { core = c; later = later_refl S l; still = λ i e at done. at }

pub quiet_trans : (S : SearchSpace) (me : ℕ) (a b c : Log) → Quiet S me a b → Quiet S me b c → Quiet S me a c
quiet_trans S me a b c p q = record {
  core = q.core;
  later = later_trans S a b c p.later q.later;
  still = λ i e at done. p.still i e (q.still i e at done) done;
}

-- ---- a message is taken
abbrev pub after_taking : SearchSpace → Log → Message → List Packet → Log
after_taking S l m ps = record l { owner = took S l.owner m; taken = ps }

took_later : (S : SearchSpace) (l : Log) (m : Message) (ps : List Packet) → ((p : Packet) → In p l.taken → In p ps)
    → Later S l (after_taking S l m ps)
took_later S l m ps sub = record {
  grows = improve_grows l.owner.nodes m;
  made = λ k h. h;
  taken = sub;
  seen = at_most_itself l.seen;
}

took_below : (b : Bool) (x y : Distance) → cond b (lesser x y) x ≤ᵈ x
took_below true x y = lesser_at_most_left x y
took_below false x y = at_most_itself x

took_new : (b : Bool) (x y : Distance) → b ≡ true → cond b (lesser x y) x ≤ᵈ y
took_new true x y e = lesser_at_most_right x y
took_new false x y e = absurd (true≢false (sym e))

took_is : (b : Bool) (x : Distance) (g n : ℕ) → cond b (lesser x (Finite g)) x ≡ Finite n → (x ≡ Finite n)
    ⊎ ((b ≡ true) × (g ≡ n))
took_is true x g n e = ⊎_elim (λ (h : lesser x (Finite g) ≡ x). inl (sym h ∙ e))
    (λ (h : lesser x (Finite g) ≡ Finite g). let same : Finite g ≡ Finite n = sym h ∙ e in let eq : g ≡ n = cc in inr
    (refl, eq)) (lesser_one x (Finite g))
took_is false x g n e = inl e

pub took_quiet : (S : SearchSpace) (me : ℕ) (l : Log) (m : Message) (ps : List Packet) → Core S me l
    → ((p : Packet) → In p l.taken → In p ps)
    → ((i : ℕ) (p : Packet) → At ps i p → In p l.taken ⊎ (p.message ≡ m))
    → IsState (ranges S.task) m.state → S.owner_of m.state ≡ me
    → Came S me (after_taking S l m ps) (node_of m) (Some m.parent)
    → Quiet S me l (after_taking S l m ps)
took_quiet S me l m ps c sub new fits mine came = record {
  core = record {
    own = λ i e at. ⊎_elim (λ (h : At ns i e). c.own i e h)
        (λ (h : node_of m ≡ e). subst (λ (z : Node). IsState (ranges S.task) z.state × (S.owner_of z.state ≡ me)) h
        (fits, mine)) (improve_at ns m i e at);
    apart = improve_apart ns m c.apart;
    came = λ i e at. ⊎_elim (λ (h : At ns i e). later_came S me l l' e e.parent later (c.came i e h))
        (λ (h : node_of m ≡ e). subst (λ (z : Node). Came S me l' z z.parent) h came) (improve_at ns m i e at);
    goal = λ i e at is. ⊎_elim (λ (h : At ns i e). at_most_through l'.owner.best l.owner.best (Finite e.cost)
        (took_below (is_goal_state S.task m.state) l.owner.best (Finite m.cost)) (c.goal i e h is))
        (λ (h : node_of m ≡ e). subst (λ (z : Node). is_goal_state S.task z.state ≡ true → l'.owner.best ≤ᵈ Finite z.cost) h
        (λ is'. took_new (is_goal_state S.task m.state) l.owner.best (Finite m.cost) is') is) (improve_at ns m i e at);
    best = λ b is. ⊎_elim (λ (h : l.owner.best ≡ Finite b). old b (c.best b h))
        (λ (h : (is_goal_state S.task m.state ≡ true) × (m.cost ≡ b)). fresh b h)
        (took_is (is_goal_state S.task m.state) l.owner.best m.cost b is);
    offered = at_most_through l'.owner.best l.owner.best l.offered
        (took_below (is_goal_state S.task m.state) l.owner.best (Finite m.cost)) c.offered;
    bound = c.bound;
    taken = λ i p at. ⊎_elim (λ (h : In p l.taken). let (has, own) = c.taken h.0 p h.1 in
        (grows_has ns (improve ns m) p.message.state p.message.cost later.grows has, own))
        (λ (h : p.message ≡ m). subst (λ (x : Message). Has (improve ns m) x.state x.cost × (S.owner_of x.state ≡ me))
        (sym h) (here, mine)) (new i p at);
    ours = λ k made. grows_ours S me ns (improve ns m) k later.grows (c.ours k made);
    queued = c.queued;
    width = c.width;
    begun = λ is. grows_has ns (improve ns m) S.task.initial 0 later.grows (c.begun is);
  };
  later = later;
  still = improve_still ns m;
}
  where
    ns : List Node
    ns = l.owner.nodes

    l' : Log
    l' = after_taking S l m ps

    later : Later S l (after_taking S l m ps)
    later = took_later S l m ps sub

    here : Has (improve l.owner.nodes m) m.state m.cost
    here = let (i, e, at, state, rank) = improve_has l.owner.nodes m in (i, e, at, state, rank.cost)

    old : (b : ℕ) → ((i : ℕ) × (e : Node) × At l.owner.nodes i e × (is_goal_state S.task e.state ≡ true) × (e.cost ≤ b))
        → (i : ℕ) × (e : Node) × At (improve l.owner.nodes m) i e × (is_goal_state S.task e.state ≡ true) × (e.cost ≤ b)
    old b (i, e, at, is, le) = let (x, x_at, x_state, x_rank) = improve_grows l.owner.nodes m i e at in
        (i, x, x_at, ap (is_goal_state S.task) x_state ∙ is, let c' = x_rank.cost in omega arith)

    fresh : (b : ℕ) → (is_goal_state S.task m.state ≡ true) × (m.cost ≡ b) → (i : ℕ) × (e : Node) × At
        (improve l.owner.nodes m) i e × (is_goal_state S.task e.state ≡ true) × (e.cost ≤ b)
    fresh b (is, same) = let (i, e, at, state, rank) = improve_has l.owner.nodes m in
        (i, e, at, ap (is_goal_state S.task) state ∙ is, let c' = rank.cost in omega arith)

-- a successor is dropped, taken or posted
abbrev pub at_owner : Log → Owner → Log
at_owner l o = record l { owner = o }

put_in : (f : List (List Message)) (v : ℕ) (m : Message) (u : ℕ) (k : Message) → In k
    (list_at (slice_set f v (list_at f v ++ m ∷ [])) u) → In k (list_at f u) ⊎ ((m ≡ k) × (u ≡ v))
put_in f v m u k = set_cases f v (list_at f v ++ m ∷ []) u
    (λ (q : List Message). In k q → In k (list_at f u) ⊎ ((m ≡ k) × (u ≡ v)))
    (λ e h. ⊎_elim (λ (q : In k (list_at f v)). inl (subst (λ n. In k (list_at f n)) (sym e) q)) (λ (q : m ≡ k). inr (q, e))
    (snoc_cases k m (list_at f v) h.0 h.1))
    (λ h. inl h)

put_keeps : (f : List (List Message)) (v : ℕ) (m : Message) (u : ℕ) (k : Message) → In k (list_at f u) → In k
    (list_at (slice_set f v (list_at f v ++ m ∷ [])) u)
put_keeps f v m u k h = set_cases f v (list_at f v ++ m ∷ []) u (In k)
    (λ e. in_front k (list_at f v) (m ∷ []) (subst (λ n. In k (list_at f n)) e h)) h

put_new : (f : List (List Message)) (v : ℕ) (m : Message) → v < length f → In m
    (list_at (slice_set f v (list_at f v ++ m ∷ [])) v)
put_new f v m lt = subst (In m) (sym (set_there f v (list_at f v ++ m ∷ []) lt)) (in_last m (list_at f v))

posted_quiet : (S : SearchSpace) (me : ℕ) (l : Log) (m : Message) → Core S me l → IsOurs S me l.owner.nodes m → Quiet S me l
    (at_owner l (posted S l.owner m))
posted_quiet S me l m c new = record {
  core = record {
    own = c.own;
    apart = c.apart;
    came = λ i e at. later_came S me l (at_owner l (posted S l.owner m)) e e.parent later (c.came i e at);
    goal = c.goal;
    best = c.best;
    offered = c.offered;
    bound = c.bound;
    taken = c.taken;
    begun = c.begun;
    width = length-set l.owner.outboxes (S.owner_of m.state) (list_at l.owner.outboxes (S.owner_of m.state) ++ m ∷ []) ∙ c.width;
    queued = λ u i k at. ⊎_elim (λ (h : In k (list_at l.owner.outboxes u)). c.queued u h.0 k h.1)
        (λ (h : (m ≡ k) × (u ≡ S.owner_of m.state)). ap (λ (y : Message). S.owner_of y.state) (sym h.0) ∙ sym h.1)
        (put_in l.owner.outboxes (S.owner_of m.state) m u k (i, at));
    ours = λ k made. ⊎_elim
        (λ (q : In k (list_at (slice_set l.owner.outboxes (S.owner_of m.state)
        (list_at l.owner.outboxes (S.owner_of m.state) ++ m ∷ [])) (S.owner_of k.state))). ⊎_elim
        (λ (h : In k (list_at l.owner.outboxes (S.owner_of k.state))). c.ours k (inl h))
        (λ (h : (m ≡ k) × (S.owner_of k.state ≡ S.owner_of m.state)). subst (IsOurs S me l.owner.nodes) h.0 new)
        (put_in l.owner.outboxes (S.owner_of m.state) m (S.owner_of k.state) k q))
        (λ (q : In k l.handed). c.ours k (inr q))
        made;
  };
  later = later;
  still = λ i e at done. at;
}
  where
    later : Later S l (at_owner l (posted S l.owner m))
    later = record {
      grows = grows_refl l.owner.nodes;
      made = λ k made. ⊎_elim
          (λ (q : In k (list_at l.owner.outboxes (S.owner_of k.state))). inl
          (put_keeps l.owner.outboxes (S.owner_of m.state) m (S.owner_of k.state) k q))
          (λ (q : In k l.handed). inr q) made;
      taken = λ p h. h;
      seen = at_most_itself l.seen;
    }

pub treat_quiet : (S : SearchSpace) (me : ℕ) (l : Log) (m : Message) → ((s : List ℕ) → S.owner_of s < S.owners)
    → Core S me l → IsOurs S me l.owner.nodes m
    → Quiet S me l (at_owner l (treat S me l.owner m)) × Treated S (at_owner l (treat S me l.owner m)) m
treat_quiet S me l m below c new =
    let P : Owner → Type 0 = λ o. Quiet S me l (at_owner l o) × Treated S (at_owner l o) m in
    cond_both (is_at_most l.owner.bound (f_value S m.state m.cost)) l.owner
    (cond (S.owner_of m.state == me) (took S l.owner m) (posted S l.owner m)) P
    (λ drop. (
      quiet_refl S me l c,
      inl (at_most_through l.seen l.owner.bound (f_value S m.state m.cost) c.bound
          (is_at_most-true l.owner.bound (f_value S m.state m.cost) drop)),
    ))
    (λ _. cond_both (S.owner_of m.state == me) (took S l.owner m) (posted S l.owner m) P
    (λ mine. (
      took_quiet S me l m l.taken c (λ p h. h) (λ i p h. inl (i, h)) new.fits (eqb-true (S.owner_of m.state) me mine)
          (inl (
            new.worker,
            grows_born S.task l.owner.nodes (improve l.owner.nodes m) m.parent m.state m.cost m.steps
                (improve_grows l.owner.nodes m) new.born,
          )),
      inr (inl here),
    ))
    (λ _. (
      posted_quiet S me l m c new,
      inr (inr (inl
          (put_new l.owner.outboxes (S.owner_of m.state) m
          (subst (λ n. S.owner_of m.state < n) (sym c.width) (below m.state))))),
    )))
  where
    here : Has (improve l.owner.nodes m) m.state m.cost
    here = let (i, e, at, state, rank) = improve_has l.owner.nodes m in (i, e, at, state, rank.cost)

pub treat_all_quiet : (S : SearchSpace) (me : ℕ) (ms : List Message) (l : Log) → ((s : List ℕ) → S.owner_of s < S.owners)
    → Core S me l → ((m : Message) → In m ms → IsOurs S me l.owner.nodes m)
    → Quiet S me l (at_owner l (treat_all S me l.owner ms))
    × ((m : Message) → In m ms → Treated S (at_owner l (treat_all S me l.owner ms)) m)
treat_all_quiet S me [] l below c new = (quiet_refl S me l c, λ m h. absurd h.1)
treat_all_quiet S me (m ∷ ms) l below c new =
    let l1 = at_owner l (treat S me l.owner m) in
    let l2 = at_owner l (treat_all S me l1.owner ms) in
    let first = treat_quiet S me l m below c (new m (zero, refl)) in
    let rest = treat_all_quiet S me ms l1 below first.0.core
    (λ k h. grows_ours S me l.owner.nodes l1.owner.nodes k first.0.later.grows (new k (in_cons k m ms h))) in
    (quiet_trans S me l l1 l2 first.0 rest.0, each l1 l2 first.1 rest.0.later rest.1)
  where
    each : (l1 l2 : Log) → Treated S l1 m → Later S l1 l2 → ((k : Message) → In k ms → Treated S l2 k) → (k : Message)
        → In k (m ∷ ms) → Treated S l2 k
    each l1 l2 head later tail k (zero, at) = subst (Treated S l2) at (later_treated S l1 l2 m later head)
    each l1 l2 head later tail k (suc i, at) = tail k (i, at)
