-- Every world run projects to a lawful family, and a count of 0 says that it is settled.
use Rattle.std.proofs.Common.{◌≡◌, ℕ, zero, suc, ◌+◌, ◌<◌, ◌≤◌, Bool, true, false, not, ◌&&◌, ◌||◌, ◌==◌, List, [], ◌∷◌, ◌++◌, length, Option, Some, None, refl, sym, ap, ◌∙◌, subst, inr, ⊎_elim, arith, true≢false, cond}
use Rattle.std.specs.Prelude.{slice_get}
use Rattle.std.specs.List.{list_all}
use Rattle.std.proofs.lemmas.Bool.{cond_both, and_parts, and_from, or_cases, or_left, or_right, eqb-true, eqb-false, eq-eqb, cases_lt}
use Rattle.cost.specs.Distances.{Distance, Finite, Infinite, ◌≤ᵈ◌, is_at_most, lesser}
use Rattle.cost.proofs.DistanceLaws.{at_most_itself, at_most_through, at_most_infinite, is_at_most-true, is_at_most-from, lesser_at_most_left, lesser_at_most_right, at_most_lesser}
use Rattle.fdr.specs.Tasks.{ranges}
use Rattle.checker_clauses.specs.Clauses.{is_state}
use Rattle.owner_theory.specs.Owners.{At, list_at, put, SearchSpace, Message, Node, Packet, Owner, Log, Event, Take, Expand, HandOut, Look, Offer, f_value, may_expand, expanded_at, fits, handed_out, happens, IsRun}
use Rattle.owner_theory.specs.Families.{In, IsSearchSpace, same_message, copies, copies_from, IsLawful, best_of, least_of}
use Rattle.owner_theory.specs.Worlds.{waiting, World, Step, Expands, Sends, Delivers, Offers, Looks, Rests, nth_to, without_nth_to, is_empty, idle, sent, delivered, world_after, world_start, world_run, family_of, busy, count, IsQuiet}
use Rattle.owner_theory.proofs.Distances.{least_of_at_most}
use Rattle.owner_theory.proofs.Owners.{after_taking}
use Rattle.owner_theory.proofs.Runs.{good}
use Rattle.owner_theory.proofs.Links.{unit, unit_cases, same_message-true, copies_in, in_copies_from}
use Rattle.owner_theory.proofs.Lists.{at_get, in_cons, put_cases}
use Rattle.owner_theory.proofs.States.{is_state-from}

-- a function with another value at one place
put_same : {X Y : Type 0} (f : ℕ → X) (w : ℕ) (x : X) (part : X → Y) → part x ≡ part (f w) → (v : ℕ) → part
    (put f w x v) ≡ part (f v)
put_same f w x part same v = put_cases f w x v (λ y. part y ≡ part (f v)) (λ e. same ∙ sym (ap (λ k. part (f k)) e)) (λ _. refl)

-- ---- the messages underway
copies_from-append : (w : ℕ) (m : Message) (xs ys : List Packet) → copies_from w m
    (xs ++ ys) ≡ copies_from w m xs + copies_from w m ys
copies_from-append w m [] ys = omega arith
copies_from-append w m (x ∷ xs) ys = let rec = copies_from-append w m xs ys in omega arith

abbrev IsIt : ℕ → Message → Packet → Bool
IsIt w m p = (w == p.sender) && same_message m p.message

nth_is : (S : SearchSpace) (v k : ℕ) (ps : List Packet) (p : Packet) → nth_to S v k ps ≡ Some p → In p ps
    × (S.owner_of p.message.state ≡ v)
nth_is S v k [] p h = absurd (cc)
nth_is S v zero (x ∷ ps) p h =
    let P : Option Packet → Type 0 = λ o. o ≡ Some p → In p (x ∷ ps) × (S.owner_of p.message.state ≡ v) in
    cond_both (S.owner_of x.message.state == v) (Some x) (nth_to S v zero ps) P
    (λ mine e. let same : x ≡ p = cc in (
      (zero, same),
      ap (λ (y : Packet). S.owner_of y.message.state) (sym same) ∙ eqb-true
          (S.owner_of x.message.state) v mine,
    ))
    (λ _ e. let (there, is) = nth_is S v zero ps p e in (in_cons p x ps there, is))
    h
nth_is S v (suc k) (x ∷ ps) p h =
    let P : Option Packet → Type 0 = λ o. o ≡ Some p → In p (x ∷ ps) × (S.owner_of p.message.state ≡ v) in
    cond_both (S.owner_of x.message.state == v) (nth_to S v k ps) (nth_to S v (suc k) ps) P
    (λ mine e. let (there, is) = nth_is S v k ps p e in (in_cons p x ps there, is))
    (λ _ e. let (there, is) = nth_is S v (suc k) ps p e in (in_cons p x ps there, is))
    h

by_bool : (b : Bool) (P : Bool → Type 0) → P true → P false → P b
by_bool true P t f = t
by_bool false P t f = f

-- one packet is away
rest_copies : (S : SearchSpace) (v k : ℕ) (ps : List Packet) (p : Packet) (w : ℕ) (m : Message) → nth_to S v k ps ≡ Some p
    → copies_from w m ps ≡ unit (IsIt w m p) + copies_from w m (without_nth_to S v k ps)
rest_copies S v k [] p w m h = absurd (cc)
rest_copies S v zero (x ∷ ps) p w m h =
    by_bool (S.owner_of x.message.state == v) (λ b. cond b (Some x) (nth_to S v zero ps) ≡ Some p → copies_from w m
    (x ∷ ps) ≡ unit (IsIt w m p) + copies_from w m (cond b ps (x ∷ without_nth_to S v zero ps)))
    (λ e. let same : x ≡ p = cc in ap (λ (y : Packet). unit (IsIt w m y) + copies_from w m ps) same)
    (λ e. let rec = rest_copies S v zero ps p w m e in omega arith)
    h
rest_copies S v (suc k) (x ∷ ps) p w m h =
    by_bool (S.owner_of x.message.state == v) (λ b. cond b (nth_to S v k ps) (nth_to S v (suc k) ps) ≡ Some p
    → copies_from w m (x ∷ ps) ≡ unit (IsIt w m p) + copies_from w m
    (cond b (x ∷ without_nth_to S v k ps) (x ∷ without_nth_to S v (suc k) ps)))
    (λ e. let rec = rest_copies S v k ps p w m e in omega arith)
    (λ e. let rec = rest_copies S v (suc k) ps p w m e in omega arith)
    h

-- what every world keeps
pub record WorldOk (S : SearchSpace) (W : World) : Type 0 where
  pub runs : (w : ℕ) → IsRun S w (W.logs w)
  pub links : (w : ℕ) (m : Message) → copies m (W.logs w).handed ≡ copies_from w m
      (W.logs (S.owner_of m.state)).taken + copies_from w m W.underway
  -- the bound is one that was offered
  pub offered : (b : Distance) → ((w : ℕ) → b ≤ᵈ (W.logs w).offered) → b ≤ᵈ W.bound
  -- it only falls
  pub seen : (w : ℕ) → W.bound ≤ᵈ (W.logs w).seen
  -- who rests is idle
  pub rests : (w : ℕ) → W.resting w ≡ true → idle S (W.logs w).owner ≡ true

ran : (S : SearchSpace) (W : World) (w : ℕ) (e : Event) → ((v : ℕ) → IsRun S v (W.logs v)) → (v : ℕ) → IsRun S v
    (put W.logs w (happens S w (W.logs w) e) v)
ran S W w e runs v = put_cases W.logs w (happens S w (W.logs w) e) v (IsRun S v)
    (λ is. subst (λ k. IsRun S k (happens S w (W.logs w) e)) (sym is) (e ∷ (runs w).0, ap (λ l. happens S w l e) (runs w).1))
    (λ _. runs v)

-- an event that takes and hands out nothing
abbrev acted : SearchSpace → World → ℕ → Event → World
acted S W w e = record W { logs = put W.logs w (happens S w (W.logs w) e) }

links_same : (S : SearchSpace) (W : World) (w : ℕ) (l : Log) → WorldOk S W → l.handed ≡ (W.logs w).handed
    → l.taken ≡ (W.logs w).taken
    → (v : ℕ) (m : Message) → copies m (put W.logs w l v).handed ≡ copies_from v m
    (put W.logs w l (S.owner_of m.state)).taken + copies_from v m W.underway
links_same S W w l ok same_h same_t v m =
    let h : copies m (put W.logs w l v).handed ≡ copies m (W.logs v).handed = ap (copies m)
    (put_same W.logs w l (λ (x : Log). x.handed) same_h v) in
    let t : copies_from v m (put W.logs w l (S.owner_of m.state)).taken ≡ copies_from v m
    (W.logs (S.owner_of m.state)).taken = ap (copies_from v m)
    (put_same W.logs w l (λ (x : Log). x.taken) same_t (S.owner_of m.state)) in
    h ∙ (ok.links v m ∙ ap (λ k. k + copies_from v m W.underway) (sym t))

rests_put : (S : SearchSpace) (W : World) (w : ℕ) (l : Log) → WorldOk S W → (W.resting w ≡ true → idle S l.owner ≡ true)
    → (v : ℕ) → W.resting v ≡ true → idle S (put W.logs w l v).owner ≡ true
rests_put S W w l ok here v r = put_cases W.logs w l v (λ (x : Log). idle S x.owner ≡ true)
    (λ e. here (subst (λ k. W.resting k ≡ true) e r)) (λ _. ok.rests v r)

-- ---- idle owners
all_at : (test : Node → Bool) (ns : List Node) (i : ℕ) (e : Node) → list_all test ns ≡ true → At ns i e → test e ≡ true
all_at test [] i e h at = absurd at
all_at test (x ∷ ns) zero e h at = subst (λ y. test y ≡ true) at (and_parts _ _ h).0
all_at test (x ∷ ns) (suc i) e h at = all_at test ns i e (and_parts _ _ h).1 at

all_weaker : (p q : Node → Bool) → ((e : Node) → p e ≡ true → q e ≡ true) → (ns : List Node) → list_all p ns ≡ true
    → list_all q ns ≡ true
all_weaker p q sub [] h = refl
all_weaker p q sub (x ∷ ns) h = and_from _ _ (sub x (and_parts _ _ h).0) (all_weaker p q sub ns (and_parts _ _ h).1)

or_clash : (a b : Bool) → (a || b) ≡ true → not a ≡ true → not b ≡ true → ⊥
or_clash true b h n m = true≢false (sym n)
or_clash false true h n m = true≢false (sym m)
or_clash false false h n m = true≢false (sym h)

no_expansion : (S : SearchSpace) (o : Owner) (e : Node) (i : ℕ) → At o.nodes i e → idle S o ≡ true → may_expand S o e ≡ true → ⊥
unfolding may_expand
no_expansion S o e i at h may =
    let parts = and_parts _ _ may in
    let more = and_parts _ _ parts.1 in
    or_clash e.expanded (is_at_most o.bound (f_value S e.state e.cost))
    (all_at (λ x. x.expanded || is_at_most o.bound (f_value S x.state x.cost)) o.nodes i e (and_parts _ _ h).0 at)
    parts.0 more.0

idle_expand : (S : SearchSpace) (me : ℕ) (o : Owner) (i : ℕ) (x : Option Node) → slice_get o.nodes i ≡ x → idle S o ≡ true
    → idle S (expanded_at S me o i x) ≡ true
idle_expand S me o i None is h = h
idle_expand S me o i (Some e) is h = cond_both (may_expand S o e) _ o (λ (y : Owner). idle S y ≡ true)
    (λ may. absurd (no_expansion S o e i (at_get o.nodes i e is) h may)) (λ _. h)

idle_look : (S : SearchSpace) (o : Owner) (b : Distance) → b ≤ᵈ o.bound → idle S o ≡ true → idle S
    (record { nodes = o.nodes; outboxes = o.outboxes; bound = b; best = o.best }) ≡ true
idle_look S o b le h = and_from _ _
    (all_weaker (λ e. e.expanded || is_at_most o.bound (f_value S e.state e.cost))
    (λ e. e.expanded || is_at_most b (f_value S e.state e.cost))
    (λ e q. ⊎_elim
    (λ (d : e.expanded ≡ true). or_left e.expanded (is_at_most b (f_value S e.state e.cost)) d)
    (λ (l : is_at_most o.bound (f_value S e.state e.cost) ≡ true). or_right e.expanded
    (is_at_most b (f_value S e.state e.cost)) (is_at_most-from b (f_value S e.state e.cost)
    (at_most_through b o.bound (f_value S e.state e.cost) le (is_at_most-true o.bound (f_value S e.state e.cost) l))))
    (or_cases e.expanded (is_at_most o.bound (f_value S e.state e.cost)) q))
    o.nodes (and_parts _ _ h).0)
    (and_parts _ _ h).1

empty_is : {X : Type 0} (xs : List X) → is_empty xs ≡ true → xs ≡ []
empty_is [] h = refl
empty_is (x ∷ xs) h = absurd (true≢false (sym h))

no_length : {X : Type 0} (xs : List X) → length xs ≡ 0 → xs ≡ []
no_length [] h = refl
no_length (x ∷ xs) h = absurd (omega arith)

empty_at : (out : List (List Message)) (v : ℕ) → list_all is_empty out ≡ true → list_at out v ≡ []
empty_at [] v h = refl
empty_at (q ∷ qs) zero h = empty_is q (and_parts _ _ h).0
empty_at (q ∷ qs) (suc v) h = empty_at qs v (and_parts _ _ h).1

none_waits : (out : List (List Message)) (v : ℕ) → waiting out ≡ 0 → list_at out v ≡ []
none_waits [] v h = refl
none_waits (q ∷ qs) zero h = no_length q (omega arith)
none_waits (q ∷ qs) (suc v) h = none_waits qs v (omega arith)

-- ---- the steps
expands_ok : (S : SearchSpace) (W : World) (w i : ℕ) → WorldOk S W → WorldOk S (world_after S W (Expands w i))
expands_ok S W w i ok = record {
  runs = ran S W w (Expand i) ok.runs;
  links = links_same S W w (happens S w (W.logs w) (Expand i)) ok refl refl;
  offered = λ b all. ok.offered b (λ v. subst (◌≤ᵈ◌ b)
      (put_same W.logs w (happens S w (W.logs w) (Expand i)) (λ (x : Log). x.offered) refl v) (all v));
  seen = λ v. subst (◌≤ᵈ◌ W.bound) (sym (put_same W.logs w (happens S w (W.logs w) (Expand i))
      (λ (x : Log). x.seen) refl v)) (ok.seen v);
  rests = rests_put S W w (happens S w (W.logs w) (Expand i)) ok
      (λ r. idle_expand S w (W.logs w).owner i (slice_get (W.logs w).owner.nodes i) refl (ok.rests w r));
}

offers_ok : (S : SearchSpace) (W : World) (w : ℕ) → WorldOk S W → WorldOk S (world_after S W (Offers w))
offers_ok S W w ok = record {
  runs = ran S W w Offer ok.runs;
  links = links_same S W w (happens S w (W.logs w) Offer) ok refl refl;
  offered = λ b all. at_most_lesser b W.bound (W.logs w).owner.best
      (ok.offered b (λ v. old b v (all v)))
      (at_most_through b (lesser (W.logs w).offered (W.logs w).owner.best) (W.logs w).owner.best
      (subst (λ (k : Bool). b ≤ᵈ (cond k (happens S w (W.logs w) Offer) (W.logs w)).offered) (eq-eqb w w refl) (all w))
      (lesser_at_most_right (W.logs w).offered (W.logs w).owner.best));
  seen = λ v. at_most_through (lesser W.bound (W.logs w).owner.best) W.bound _
      (lesser_at_most_left W.bound (W.logs w).owner.best)
      (subst (◌≤ᵈ◌ W.bound) (sym (put_same W.logs w (happens S w (W.logs w) Offer) (λ (x : Log). x.seen) refl v))
      (ok.seen v));
  rests = rests_put S W w (happens S w (W.logs w) Offer) ok (ok.rests w);
}
  where
    old : (b : Distance) (v : ℕ) → b ≤ᵈ (put W.logs w (happens S w (W.logs w) Offer) v).offered → b ≤ᵈ (W.logs v).offered
    old b v = put_cases W.logs w (happens S w (W.logs w) Offer) v (λ (x : Log). b ≤ᵈ x.offered → b ≤ᵈ (W.logs v).offered)
        (λ e h. subst (λ k. b ≤ᵈ (W.logs k).offered) (sym e)
        (at_most_through b _ (W.logs w).offered h (lesser_at_most_left (W.logs w).offered (W.logs w).owner.best)))
        (λ _ h. h)

looks_ok : (S : SearchSpace) (W : World) (w : ℕ) → IsSearchSpace S → WorldOk S W → WorldOk S (world_after S W (Looks w))
looks_ok S W w sp ok = record {
  runs = ran S W w (Look W.bound) ok.runs;
  links = links_same S W w (happens S w (W.logs w) (Look W.bound)) ok refl refl;
  offered = λ b all. ok.offered b (λ v. subst (◌≤ᵈ◌ b)
      (put_same W.logs w (happens S w (W.logs w) (Look W.bound)) (λ (x : Log). x.offered) refl v) (all v));
  seen = λ v. put_cases W.logs w (happens S w (W.logs w) (Look W.bound)) v (λ (x : Log). W.bound ≤ᵈ x.seen)
      (λ _. at_most_lesser W.bound (W.logs w).seen W.bound (ok.seen w) (at_most_itself W.bound)) (λ _. ok.seen v);
  rests = rests_put S W w (happens S w (W.logs w) (Look W.bound)) ok
      (λ r. idle_look S (W.logs w).owner W.bound (at_most_through W.bound (W.logs w).seen (W.logs w).owner.bound (ok.seen w)
      (good S w (W.logs w) sp (ok.runs w)).core.bound) (ok.rests w r));
}

rests_ok : (S : SearchSpace) (W : World) (w : ℕ) → WorldOk S W → WorldOk S (world_after S W (Rests w))
rests_ok S W w ok = cond_both (idle S (W.logs w).owner) (record W { resting = put W.resting w true }) W (WorldOk S)
    (λ is. record {
      runs = ok.runs;
      links = ok.links;
      offered = ok.offered;
      seen = ok.seen;
      rests = λ v. put_cases W.resting w true v (λ (x : Bool). x ≡ true → idle S (W.logs v).owner ≡ true)
          (λ e _. subst (λ k. idle S (W.logs k).owner ≡ true) (sym e) is) (λ _. ok.rests v);
    })
    (λ _. ok)

sends_ok : (S : SearchSpace) (W : World) (w v : ℕ) (q : List Message) → list_at (W.logs w).owner.outboxes v ≡ q
    → IsSearchSpace S → WorldOk S W → WorldOk S (sent S W w v q)
sends_ok S W w v [] is sp ok = ok
sends_ok S W w v (m ∷ ms) is sp ok = record {
  runs = ran S W w (HandOut v) ok.runs;
  links = links;
  offered = λ b all. ok.offered b (λ k. subst (◌≤ᵈ◌ b)
      (put_same W.logs w l (λ (x : Log). x.offered) (ap (λ (x : Log). x.offered) is_l) k) (all k));
  seen = λ k. subst (◌≤ᵈ◌ W.bound) (sym (put_same W.logs w l (λ (x : Log). x.seen) (ap (λ (x : Log). x.seen) is_l) k))
      (ok.seen k);
  rests = rests_put S W w l ok (λ r. absurd (nothing (empty_at (W.logs w).owner.outboxes v (and_parts _ _ (ok.rests w r)).1)));
}
  where
    nothing : list_at (W.logs w).owner.outboxes v ≡ [] → ⊥
    nothing e = true≢false (ap is_empty (sym e ∙ is))

    l : Log
    l = happens S w (W.logs w) (HandOut v)

    is_l : happens S w (W.logs w) (HandOut v) ≡ handed_out v (W.logs w) (m ∷ ms)
    is_l = ap (handed_out v (W.logs w)) is

    handed : (k : ℕ) (x : Message) (b : Bool) → (k == w) ≡ b → copies x
        (cond b (happens S w (W.logs w) (HandOut v)) (W.logs k)).handed ≡ unit (b && same_message x m) + copies x
        (W.logs k).handed
    handed k x true e = ap (λ (y : Log). copies x y.handed) is_l ∙ ap
        (λ j. unit (same_message x m) + copies x (W.logs j).handed) (sym (eqb-true k w e))
    handed k x false e = omega arith

    links : (k : ℕ) (x : Message) → copies x (put W.logs w (happens S w (W.logs w) (HandOut v)) k).handed ≡ copies_from k x
        (put W.logs w (happens S w (W.logs w) (HandOut v)) (S.owner_of x.state)).taken + copies_from k x
        (W.underway ++ record { sender = w; message = m } ∷ [])
    links k x =
        let h : copies x (put W.logs w (happens S w (W.logs w) (HandOut v)) k).handed ≡ unit
        (IsIt k x (record { sender = w; message = m })) + copies x (W.logs k).handed = handed k x (k == w) refl in
        let t : copies_from k x (put W.logs w (happens S w (W.logs w) (HandOut v)) (S.owner_of x.state)).taken ≡ copies_from
        k x (W.logs (S.owner_of x.state)).taken = ap (copies_from k x)
        (put_same W.logs w (happens S w (W.logs w) (HandOut v)) (λ (y : Log). y.taken) (ap (λ (y : Log). y.taken) is_l)
        (S.owner_of x.state)) in
        let u = copies_from-append k x W.underway (record { sender = w; message = m } ∷ []) in
        let old = ok.links k x in
        omega arith

delivers_ok : (S : SearchSpace) (W : World) (v k : ℕ) (o : Option Packet) → nth_to S v k W.underway ≡ o → IsSearchSpace S
    → WorldOk S W → WorldOk S (delivered S W v k o)
delivers_ok S W v k None is sp ok = ok
delivers_ok S W v k (Some p) is sp ok = record {
  runs = ran S W v (Take p.sender p.message) ok.runs;
  links = links;
  offered = λ b all. ok.offered b (λ j. subst (◌≤ᵈ◌ b)
      (put_same W.logs v l (λ (x : Log). x.offered) (ap (λ (x : Log). x.offered) is_l) j) (all j));
  seen = λ j. subst (◌≤ᵈ◌ W.bound) (sym (put_same W.logs v l (λ (x : Log). x.seen) (ap (λ (x : Log). x.seen) is_l) j))
      (ok.seen j);
  rests = rests;
}
  where
    l : Log
    l = happens S v (W.logs v) (Take p.sender p.message)

    owner_is : S.owner_of p.message.state ≡ v
    owner_is = (nth_is S v k W.underway p is).1

    is_there : In p W.underway
    is_there = (nth_is S v k W.underway p is).0

    -- it was handed out, so it fits
    state_fits : is_state (ranges S.task) p.message.state ≡ true
    state_fits =
        let some = in_copies_from p W.underway is_there.0 is_there.1 in
        let link = ok.links p.sender p.message in
        let handed = copies_in p.message (W.logs p.sender).handed (omega arith) in
        is_state-from (ranges S.task) p.message.state ((good S p.sender (W.logs p.sender) sp (ok.runs p.sender)).core.ours
        p.message (inr handed)).fits

    it_fits : fits S v p.message ≡ true
    it_fits = and_from (is_state (ranges S.task) p.message.state) (S.owner_of p.message.state == v) state_fits
        (eq-eqb (S.owner_of p.message.state) v owner_is)

    is_l : happens S v (W.logs v) (Take p.sender p.message) ≡ after_taking S (W.logs v) p.message (p ∷ (W.logs v).taken)
    is_l = ap (λ b. cond b (after_taking S (W.logs v) p.message (p ∷ (W.logs v).taken)) (W.logs v)) it_fits

    taken : (j : ℕ) (x : Message) (b : Bool) → (S.owner_of x.state == v) ≡ b → copies_from j x
        (cond b (happens S v (W.logs v) (Take p.sender p.message)) (W.logs (S.owner_of x.state))).taken ≡ unit
        (IsIt j x p) + copies_from j x (W.logs (S.owner_of x.state)).taken
    taken j x true e = ap (λ (y : Log). copies_from j x y.taken) is_l ∙ ap
        (λ i. unit (IsIt j x p) + copies_from j x (W.logs i).taken) (sym (eqb-true (S.owner_of x.state) v e))
    taken j x false e = ⊎_elim
        (λ (q : (IsIt j x p ≡ true) × (unit (IsIt j x p) ≡ 1)). absurd
        (eqb-false (S.owner_of x.state) v e (ap (λ (y : Message). S.owner_of y.state)
        (same_message-true x p.message (and_parts _ _ q.0).1) ∙ owner_is)))
        (λ (q : unit (IsIt j x p) ≡ 0). omega arith)
        (unit_cases (IsIt j x p))

    links : (j : ℕ) (x : Message) → copies x (put W.logs v
        (happens S v (W.logs v) (Take p.sender p.message)) j).handed ≡ copies_from j x
        (put W.logs v (happens S v (W.logs v) (Take p.sender p.message)) (S.owner_of x.state)).taken + copies_from j x
        (without_nth_to S v k W.underway)
    links j x =
        let h : copies x (put W.logs v (happens S v (W.logs v) (Take p.sender p.message)) j).handed ≡ copies x
        (W.logs j).handed = ap (copies x) (put_same W.logs v (happens S v (W.logs v) (Take p.sender p.message))
        (λ (y : Log). y.handed) (ap (λ (y : Log). y.handed) is_l) j) in
        let t : copies_from j x (put W.logs v (happens S v (W.logs v) (Take p.sender p.message))
        (S.owner_of x.state)).taken ≡ unit (IsIt j x p) + copies_from j x
        (W.logs (S.owner_of x.state)).taken = taken j x (S.owner_of x.state == v) refl in
        let u = rest_copies S v k W.underway p j x is in
        let old = ok.links j x in
        omega arith

    rests : (w : ℕ) → put W.resting v false w ≡ true → idle S
        (put W.logs v (happens S v (W.logs v) (Take p.sender p.message)) w).owner ≡ true
    rests w = both (w == v)
      where
        both : (b : Bool) → cond b false (W.resting w) ≡ true → idle S
            (cond b (happens S v (W.logs v) (Take p.sender p.message)) (W.logs w)).owner ≡ true
        both true r = absurd (true≢false (sym r))
        both false r = ok.rests w r

step_ok : (S : SearchSpace) (W : World) (s : Step) → IsSearchSpace S → WorldOk S W → WorldOk S (world_after S W s)
step_ok S W (Expands w i) sp ok = expands_ok S W w i ok
step_ok S W (Sends w v) sp ok = sends_ok S W w v (list_at (W.logs w).owner.outboxes v) refl sp ok
step_ok S W (Delivers v k) sp ok = delivers_ok S W v k (nth_to S v k W.underway) refl sp ok
step_ok S W (Offers w) sp ok = offers_ok S W w ok
step_ok S W (Looks w) sp ok = looks_ok S W w sp ok
step_ok S W (Rests w) sp ok = rests_ok S W w ok

world_ok : (S : SearchSpace) (W : World) (ss : List Step) → IsSearchSpace S → WorldOk S W → WorldOk S (world_run S W ss)
world_ok S W [] sp ok = ok
world_ok S W (s ∷ ss) sp ok = world_ok S (world_after S W s) ss sp (step_ok S W s sp ok)

start_ok : (S : SearchSpace) → WorldOk S (world_start S)
start_ok S = record {
  runs = λ w. ([], refl);
  links = λ w m. omega arith;
  offered = λ b all. at_most_infinite b;
  seen = λ w. tt;
  rests = λ w r. absurd (true≢false (sym r));
}

pub run_ok : (S : SearchSpace) (ss : List Step) → IsSearchSpace S → WorldOk S (world_run S (world_start S) ss)
run_ok S ss sp = world_ok S (world_start S) ss sp (start_ok S)

-- past the last owner nothing was offered
past : (S : SearchSpace) (W : World) (w : ℕ) (b x : Distance) → IsSearchSpace S → WorldOk S W → S.owners ≤ w
    → (W.logs w).owner.best ≡ x → b ≤ᵈ (W.logs w).offered
past S W w b Infinite sp ok le is = at_most_through b Infinite (W.logs w).offered (at_most_infinite b)
    (subst (λ y. y ≤ᵈ (W.logs w).offered) is (good S w (W.logs w) sp (ok.runs w)).core.offered)
past S W w b (Finite n) sp ok le is =
    let g = good S w (W.logs w) sp (ok.runs w) in
    let (i, e, at, goal, cost) = g.core.best n is in
    let own = (g.core.own i e at).1 in
    let lt = sp.owner e.state in
    absurd (omega arith)

least_bound : (S : SearchSpace) (W : World) (b : Distance) → IsSearchSpace S → WorldOk S W
    → ((w : ℕ) → w < S.owners → b ≤ᵈ (W.logs w).offered) → b ≤ᵈ W.bound
least_bound S W b sp ok all = ok.offered b (λ w. ⊎_elim (λ (lt : w < S.owners). all w lt)
    (λ (le : S.owners ≤ w). past S W w b (W.logs w).owner.best sp ok le refl) (cases_lt w S.owners))

pub lawful : (S : SearchSpace) (W : World) → IsSearchSpace S → WorldOk S W → IsLawful S (family_of W)
lawful S W sp ok = record {
  runs = ok.runs;
  links = ok.links;
  bounds = λ w. at_most_through (least_of S.owners (λ v. (W.logs v).offered)) W.bound (W.logs w).seen
      (least_bound S W (least_of S.owners (λ v. (W.logs v).offered)) sp ok
      (λ v lt. least_of_at_most S.owners (λ u. (W.logs u).offered) v lt)) (ok.seen w);
}

-- ---- a count of 0
at_rest : (b : Bool) → ◌≡◌ {A = ℕ} (cond b 0 1) 0 → b ≡ true
at_rest true h = refl
at_rest false h = absurd (omega arith)

not_busy : (n : ℕ) (W : World) → busy n W ≡ 0 → (w : ℕ) → w < n → (waiting (W.logs w).owner.outboxes ≡ 0) × (W.resting w ≡ true)
not_busy zero W h w lt = absurd (omega arith)
not_busy (suc n) W h w lt =
    ⊎_elim
    (λ (q : w < n). not_busy n W (omega arith) w q)
    (λ (q : n ≤ w). let e : n ≡ w = omega arith in
    subst (λ i. (waiting (W.logs i).owner.outboxes ≡ 0) × (W.resting i ≡ true)) e
    (omega arith, at_rest (W.resting n) (omega arith)))
    (cases_lt w n)

open_above : (a b : Bool) → (a || b) ≡ true → a ≡ false → b ≡ true
open_above true b h e = absurd (true≢false e)
open_above false b h e = h

pub count_zero : (S : SearchSpace) (W : World) → IsSearchSpace S → WorldOk S W → count S W ≡ 0 → IsQuiet S W
count_zero S W sp ok none = record {
  underway = no_underway;
  outboxes = λ w v lt. none_waits (W.logs w).owner.outboxes v (calm w lt).0;
  idle = λ w lt. ok.rests w (calm w lt).1;
  settled = record {
    best = refl;
    pending = record {
      nodes = λ w i e lt at open_.
          at_most_through b (W.logs w).owner.bound (f_value S e.state e.cost)
          (at_most_through b (W.logs w).seen (W.logs w).owner.bound
          (at_most_through b W.bound (W.logs w).seen below (ok.seen w)) (good S w (W.logs w) sp (ok.runs w)).core.bound)
          (is_at_most-true (W.logs w).owner.bound (f_value S e.state e.cost)
          (open_above e.expanded (is_at_most (W.logs w).owner.bound (f_value S e.state e.cost))
          (all_at (λ x. x.expanded || is_at_most (W.logs w).owner.bound (f_value S x.state x.cost))
          (W.logs w).owner.nodes i e (and_parts _ _ (ok.rests w (calm w lt).1)).0 at) open_));
      outboxes = λ w v i m lt at. absurd (subst (λ ms. At ms i m) (none_waits (W.logs w).owner.outboxes v (calm w lt).0) at);
      left = λ i p at. absurd (subst (λ ps. At ps i p) no_underway at);
    };
  };
}
  where
    no_underway : W.underway ≡ []
    no_underway = no_length W.underway (omega arith)

    calm : (w : ℕ) → w < S.owners → (waiting (W.logs w).owner.outboxes ≡ 0) × (W.resting w ≡ true)
    calm = not_busy S.owners W (omega arith)

    b : Distance
    b = best_of S (family_of W)

    below : best_of S (family_of W) ≤ᵈ W.bound
    below = least_bound S W (best_of S (family_of W)) sp ok
        (λ w lt. at_most_through (best_of S (family_of W)) (W.logs w).owner.best (W.logs w).offered
        (least_of_at_most S.owners (λ v. (W.logs v).owner.best) w lt) (good S w (W.logs w) sp (ok.runs w)).core.offered)
