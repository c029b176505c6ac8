-- The open list follows the nodes.
use Rattle.std.proofs.Common.{◌≡◌, ◌⊎◌, ℕ, zero, suc, Bool, ◌+◌, ◌<◌, ◌≤◌, ◌^◌, true, false, List, [], ◌∷◌, ◌++◌, length, Option, Some, None, All, refl, sym, ap, ◌∙◌, subst, inl, inr, ⊎_elim, arith, true≢false}
use Rattle.std.specs.Prelude.{Contains, map, slice_get, slice_set, IfSome, IfNone}
use Rattle.std.specs.List.Sorted.{IsPermutation}
use Rattle.std.proofs.lemmas.Bool.{cases_lt}
use Rattle.std.proofs.lemmas.Bool.Decides.{nat_tests}
use Rattle.std.proofs.lemmas.List.Elements.{All-nil, All-cons, All-tail, All-append, All-contains}
use Rattle.std.proofs.lemmas.List.Sorted.{Contains-permutation, IsPermutation-sym, All-permutation, length_permutation}
use Rattle.cost.specs.Distances.{Distance, Finite, Infinite, ◌+ᵈ◌, distance_of}
use Rattle.owner_theory.specs.Owners.{At, Node, rank_less, marked}
use Rattle.owner_theory.proofs.Lists.{at_once, at_front, at_below, set_elsewhere, get_at}
use Rattle.owner_theory.proofs.Nodes.{RankLe, mark_at, mark_there}
use Rattle.openlist.specs.declared.entry.Rank.{Rank}
use Rattle.openlist.specs.declared.entry.OpenEntry.{OpenEntry}
use Rattle.openlist.specs.OpenLists.{comes_first, IsFirst, entry_of}
use Rattle.closed.specs.declared.message.Parent.{Parent}
use Rattle.closed.specs.declared.table.Outcome.{Outcome}
use Rattle.closed.specs.declared.table.Outcome.TheVariants.{New, Better, Kept}
use Rattle.closed.specs.Tables.{was_expanded, reached, outcome_of, fresh}
use Rattle.closed.proofs.Ever.{expanded_elsewhere}
use Rattle.owner_space.specs.declared.ties.Ties.{Ties}
use Rattle.owner_space.specs.Keyed.{IsSmall, IsKeyed, keyed, denoted}
use Rattle.owner_space.proofs.Keys.{denoted_keyed, denoted_small}
use Rattle.owner_reached.specs.Queues.{keyed_in, IsOf, IsCurrent, AreQueued, IsQueue, IsLeast, HasNoneOpen, added}
use Rattle.owner_reached.proofs.Entries.{in_front_of, in_rest, first_or_rest, not_in_none, all_contained, contains_back, first_of_fewer, first_before, first_both}
use Rattle.owner_reached.proofs.TieLaws.{keyed_order}
use Rattle.owner_reached.proofs.Outcomes.{last_at, push_at, IsNew, IsBetter, IsKeptAs, comes}

-- ---- stored entries

denoted_in : (ties : Ties) (ever : List Bool) (x : OpenEntry) → IsSmall x → denoted ties (keyed_in ties ever x) ≡ x
denoted_in ties ever x small = denoted_keyed ties (was_expanded ever x.index) x small

stored_in : (ties : Ties) (ever : List Bool) (x : OpenEntry) → IsSmall x → IsKeyed ties (keyed_in ties ever x)
stored_in ties ever x small = record { ever = was_expanded ever x.index; entry = x; small = small; is = refl }

-- the entry of an open node is current
current_in : (ties : Ties) (ns : List Node) (ever : List Bool) (x : OpenEntry) (n : Node) → IsSmall x → At ns x.index n → n.expanded ≡ false
    → n.cost ≡ x.rank.cost → n.steps ≡ x.rank.steps → IsCurrent ties ns ever (keyed_in ties ever x)
current_in ties ns ever x n small at waits cost steps =
    let is = sym (denoted_in ties ever x small) in
    record {
      node = n;
      there = subst (λ (y : OpenEntry). At ns y.index n) is at;
      waits = waits;
      cost = cost ∙ ap (λ (y : OpenEntry). y.rank.cost) is;
      steps = steps ∙ ap (λ (y : OpenEntry). y.rank.steps) is;
      bit = ap (keyed_in ties ever) is;
    }

-- ---- other bits that say the same

abbrev pub SameBits : List Bool → List Bool → Type 0
SameBits ever ever' = (i : ℕ) → was_expanded ever' i ≡ was_expanded ever i

same_key : (ties : Ties) (ever ever' : List Bool) → SameBits ever ever' → (e : OpenEntry) → keyed_in ties ever e ≡ keyed_in ties ever' e
same_key ties ever ever' same e = ap (λ (b : Bool). keyed ties b e) (sym (same e.index))

pub same_queued : (ties : Ties) (h : List ℕ → Distance) (ns : List Node) (ever ever' : List Bool) (es : List OpenEntry) → SameBits ever ever'
    → AreQueued ties h ns ever es → AreQueued ties h ns ever' es
same_queued ties h ns ever ever' es same q = record {
  complete = λ i n f at waits is. let k = q.complete i n f at waits is in
      (subst (Contains es) (same_key ties ever ever' same (entry_of f n.cost n.steps i)) k.0, k.1);
  sound = q.sound;
}

pub same_queue : (ties : Ties) (h : List ℕ → Distance) (ns : List Node) (ever ever' : List Bool) (es : List OpenEntry) → SameBits ever ever'
    → IsQueue ties h ns ever es → IsQueue ties h ns ever' es
same_queue ties h ns ever ever' es same q = record {
  stored = q.stored;
  queued = same_queued ties h ns ever ever' es same q.queued;
  top = λ e there first. let c = q.top e there first in record {
    node = c.node;
    there = c.there;
    waits = c.waits;
    cost = c.cost;
    steps = c.steps;
    bit = c.bit ∙ same_key ties ever ever' same (denoted ties e);
  };
}

-- ---- entries in another order

pub queued_permuted : (ties : Ties) (h : List ℕ → Distance) (ns : List Node) (ever : List Bool) (xs ys : List OpenEntry) → IsPermutation xs ys
    → AreQueued ties h ns ever xs → AreQueued ties h ns ever ys
queued_permuted ties h ns ever xs ys p q = record {
  complete = λ i n f at waits is. let k = q.complete i n f at waits is in
      (Contains-permutation xs ys (keyed_in ties ever (entry_of f n.cost n.steps i)) p k.0, k.1);
  sound = λ e there. q.sound e (Contains-permutation ys xs e (IsPermutation-sym xs ys p) there);
}

pub queue_permuted : (ties : Ties) (h : List ℕ → Distance) (ns : List Node) (ever : List Bool) (xs ys : List OpenEntry) → IsPermutation xs ys
    → IsQueue ties h ns ever xs → IsQueue ties h ns ever ys
queue_permuted ties h ns ever xs ys p q = record {
  stored = All-permutation (IsKeyed ties) xs ys p q.stored;
  queued = queued_permuted ties h ns ever xs ys p q.queued;
  top = λ e there first. q.top e (Contains-permutation ys xs e (IsPermutation-sym xs ys p) there)
      (first_of_fewer e xs ys (λ x. Contains-permutation xs ys x p) first);
}

-- ---- a state is reached

-- f is infinite at each cost or at none
f_finite : (c c' f : ℕ) (d : Distance) → Finite c +ᵈ d ≡ Finite f → Infinite ≡ Finite c' +ᵈ d → ⊥
f_finite c c' f (Finite n) p q = cc
f_finite c c' f Infinite p q = cc

-- what is of a node is of it where there is a node more
of_more : (h : List ℕ → Distance) (ns : List Node) (m : Node) (e : OpenEntry) → IsOf h ns e → IsOf h (ns ++ m ∷ []) e
of_more h ns m e o = record {
  node = o.node;
  there = at_front o.node ns (m ∷ []) e.index o.there;
  f = o.f;
  within = o.within;
  cost = o.cost;
  steps = o.steps;
}

current_more : (ties : Ties) (ns : List Node) (ever : List Bool) (m : Node) (e : OpenEntry) → IsCurrent ties ns ever e
    → IsCurrent ties (ns ++ m ∷ []) ever e
current_more ties ns ever m e c = record {
  node = c.node;
  there = at_front c.node ns (m ∷ []) (denoted ties e).index c.there;
  waits = c.waits;
  cost = c.cost;
  steps = c.steps;
  bit = c.bit;
}

-- a new node whose f-value is infinite
closed_queued : (ties : Ties) (h : List ℕ → Distance) (ns : List Node) (ever : List Bool) (es : List OpenEntry) (m : Node)
    → AreQueued ties h ns ever es → Infinite ≡ Finite m.cost +ᵈ h m.state → AreQueued ties h (ns ++ m ∷ []) ever es
closed_queued ties h ns ever es m q inf = record {
  complete = λ i n f at waits is. ⊎_elim (λ (p : At ns i n). q.complete i n f p waits is)
      (λ (p : (i ≡ length ns) × (m ≡ n)). absurd (f_finite n.cost n.cost f (h n.state) is
      (subst (λ (x : Node). Infinite ≡ Finite x.cost +ᵈ h x.state) p.1 inf))) (push_at ns m i n at);
  sound = λ e there. of_more h ns m (denoted ties e) (q.sound e there);
}

new_closed : (ties : Ties) (h : List ℕ → Distance) (ns : List Node) (ever : List Bool) (es : List OpenEntry) (m : Node)
    → IsQueue ties h ns ever es → Infinite ≡ Finite m.cost +ᵈ h m.state → IsQueue ties h (ns ++ m ∷ []) ever es
new_closed ties h ns ever es m q inf = record {
  stored = q.stored;
  queued = closed_queued ties h ns ever es m q.queued inf;
  top = λ e there first. current_more ties ns ever m e (q.top e there first);
}

-- the entry of a node at its rank
of_node : (h : List ℕ → Distance) (ns : List Node) (i f : ℕ) (m : Node) → At ns i m → Finite f ≡ Finite m.cost +ᵈ h m.state → f ≤ 2 ^ 63
    → IsOf h ns (entry_of f m.cost m.steps i)
of_node h ns i f m at is within = record {
  node = m;
  there = at;
  f = sym is;
  within = within;
  cost = omega arith;
  steps = λ _. omega arith;
}

-- nodes of which one is m at i, and the others are as before, with the entry of m
one_queued : (ties : Ties) (h : List ℕ → Distance) (ns ns' : List Node) (ever : List Bool) (es : List OpenEntry) (i : ℕ) (m : Node) (f : ℕ)
    → AreQueued ties h ns ever es → At ns' i m → ((e : OpenEntry) → IsOf h ns e → IsOf h ns' e)
    → ((j : ℕ) (n : Node) → At ns' j n → ((j ≡ i) × (m ≡ n)) ⊎ At ns j n)
    → Finite f ≡ Finite m.cost +ᵈ h m.state → f ≤ 2 ^ 63 → IsSmall (entry_of f m.cost m.steps i)
    → AreQueued ties h ns' ever (keyed_in ties ever (entry_of f m.cost m.steps i) ∷ es)
one_queued ties h ns ns' ever es i m f q here moved cases is within small = record {
  complete = λ j n f' at waits' is'. ⊎_elim
      (λ (p : (j ≡ i) × (m ≡ n)).
      let same_f : f ≡ f' = let e : Finite f ≡ Finite f' = is ∙ (ap (λ (x : Node). Finite x.cost +ᵈ h x.state) p.1 ∙ is') in cc in
      let same : x0 ≡ entry_of f' n.cost n.steps j =
      λ k. record { f = same_f k; rank = record { cost = (p.1 k).cost; steps = (p.1 k).steps }; index = sym p.0 k } in
      (subst (λ (x : OpenEntry). Contains (s0 ∷ es) (keyed_in ties ever x)) same (in_front_of s0 es), subst IsSmall same small))
      (λ (p : At ns j n). let k = q.complete j n f' p waits' is' in (in_rest _ s0 es k.0, k.1))
      (cases j n at);
  sound = λ e there. ⊎_elim
      (λ (p : s0 ≡ e). subst (λ (y : OpenEntry). IsOf h ns' (denoted ties y)) p
      (subst (IsOf h ns') (sym (denoted_in ties ever x0 small)) (of_node h ns' i f m here is within)))
      (λ (p : Contains es e). moved (denoted ties e) (q.sound e p))
      (first_or_rest e s0 es there);
}
  where
    x0 : OpenEntry
    x0 = entry_of f m.cost m.steps i

    s0 : OpenEntry
    s0 = keyed_in ties ever x0

-- a new node with its entry
open_queued : (ties : Ties) (h : List ℕ → Distance) (ns : List Node) (ever : List Bool) (es : List OpenEntry) (m : Node) (f : ℕ)
    → AreQueued ties h ns ever es → Finite f ≡ Finite m.cost +ᵈ h m.state → f ≤ 2 ^ 63 → IsSmall (entry_of f m.cost m.steps (length ns))
    → AreQueued ties h (ns ++ m ∷ []) ever (keyed_in ties ever (entry_of f m.cost m.steps (length ns)) ∷ es)
open_queued ties h ns ever es m f q is within small =
    one_queued ties h ns (ns ++ m ∷ []) ever es (length ns) m f q (last_at ns m) (of_more h ns m)
    (λ j n at. ⊎_elim (λ (p : At ns j n). inr p) (λ (p : (j ≡ length ns) × (m ≡ n)). inl p) (push_at ns m j n at)) is within small

new_open : (ties : Ties) (h : List ℕ → Distance) (ns : List Node) (ever : List Bool) (es : List OpenEntry) (m : Node) (f : ℕ)
    → IsQueue ties h ns ever es → Finite f ≡ Finite m.cost +ᵈ h m.state → f ≤ 2 ^ 63 → m.expanded ≡ false
    → IsSmall (entry_of f m.cost m.steps (length ns))
    → IsQueue ties h (ns ++ m ∷ []) ever (keyed_in ties ever (entry_of f m.cost m.steps (length ns)) ∷ es)
new_open ties h ns ever es m f q is within waits small = record {
  stored = All-cons (IsKeyed ties) s0 es (stored_in ties ever x0 small) q.stored;
  queued = open_queued ties h ns ever es m f q.queued is within small;
  top = λ e there first. ⊎_elim
      (λ (p : s0 ≡ e). subst (IsCurrent ties (ns ++ m ∷ []) ever) p (current_in ties (ns ++ m ∷ []) ever x0 m small (last_at ns m) waits refl refl))
      (λ (p : Contains es e). current_more ties ns ever m e (q.top e p (first_of_fewer e es (s0 ∷ es) (λ x. in_rest x s0 es) first)))
      (first_or_rest e s0 es there);
}
  where
    x0 : OpenEntry
    x0 = entry_of f m.cost m.steps (length ns)

    s0 : OpenEntry
    s0 = keyed_in ties ever x0

rank_less-true : (g d g' d' : ℕ) → rank_less g d g' d' ≡ true → RankLe g d g' d'
rank_less-true g d g' d' h = record { cost = grind (arith, nat_tests); steps = grind (arith, nat_tests) }

same_or_not : (a b : ℕ) → (a ≡ b) ⊎ (a ≡ b → ⊥)
same_or_not a b =
    ⊎_elim (λ (p : a < b). inr (λ e. omega arith))
    (λ (p : b ≤ a). ⊎_elim (λ (q : b < a). inr (λ e. omega arith)) (λ (q : a ≤ b). let e : a ≡ b = omega arith in inl e) (cases_lt b a))
    (cases_lt a b)

-- a node that stood for a state is as good there as one of a lesser rank
better_of : (h : List ℕ → Distance) (ns : List Node) (i : ℕ) (x m : Node) (e : OpenEntry) → At ns i x → x.state ≡ m.state
    → rank_less m.cost m.steps x.cost x.steps ≡ true → IsOf h ns e → IsOf h (slice_set ns i m) e
better_of h ns i x m e at same less o =
    ⊎_elim
    (λ (here : e.index ≡ i).
    let is : o.node ≡ x = at_once ns i o.node x (subst (λ k. At ns k o.node) here o.there) at in
    let le = rank_less-true m.cost m.steps x.cost x.steps less in
    let costs = ap (λ (n : Node). n.cost) is in
    let steps = ap (λ (n : Node). n.steps) is in
    let lec = le.cost in let oc = o.cost in
    record {
      node = m;
      there = subst (λ k. At (slice_set ns i m) k m) (sym here) (mark_there ns i m x at);
      f = ap (λ (s : List ℕ). Finite e.rank.cost +ᵈ h s) (sym (ap (λ (n : Node). n.state) is ∙ same)) ∙ o.f;
      within = o.within;
      cost = omega arith;
      steps = λ eq. let first : m.cost ≡ x.cost = omega arith in let les = le.steps first in
          let second : o.node.cost ≡ e.rank.cost = omega arith in let os = o.steps second in omega arith;
    })
    (λ (ne : e.index ≡ i → ⊥). record {
      node = o.node;
      there = set_elsewhere ns i m e.index o.node ne o.there;
      f = o.f;
      within = o.within;
      cost = o.cost;
      steps = o.steps;
    })
    (same_or_not e.index i)

-- where a node stands that was put in place of another
set_at : (ns : List Node) (i : ℕ) (x m : Node) (j : ℕ) (e : Node) → At ns i x → At (slice_set ns i m) j e
    → ((j ≡ i) × (m ≡ e)) ⊎ ((j ≡ i → ⊥) × At ns j e)
set_at ns i x m j e at there =
    ⊎_elim
    (λ (here : j ≡ i). inl (
      here,
      at_once (slice_set ns i m) i m e (mark_there ns i m x at)
          (subst (λ k. At (slice_set ns i m) k e) here there),
    ))
    (λ (ne : j ≡ i → ⊥). ⊎_elim (λ (p : (j ≡ i) × (m ≡ e)). absurd (ne p.0)) (λ (p : At ns j e). inr (ne, p))
    (mark_at ns i m j e there))
    (same_or_not j i)

-- a better node whose f-value is infinite
better_closed : (ties : Ties) (h : List ℕ → Distance) (ns : List Node) (ever : List Bool) (es : List OpenEntry) (i : ℕ) (x m : Node)
    → AreQueued ties h ns ever es → At ns i x → x.state ≡ m.state → rank_less m.cost m.steps x.cost x.steps ≡ true
    → Infinite ≡ Finite m.cost +ᵈ h m.state → AreQueued ties h (slice_set ns i m) ever es
better_closed ties h ns ever es i x m q at same less inf = record {
  complete = λ j n f there waits is. ⊎_elim
      (λ (p : (j ≡ i) × (m ≡ n)). absurd (f_finite n.cost n.cost f (h n.state) is
      (subst (λ (y : Node). Infinite ≡ Finite y.cost +ᵈ h y.state) p.1 inf)))
      (λ (p : (j ≡ i → ⊥) × At ns j n). q.complete j n f p.1 waits is)
      (set_at ns i x m j n at there);
  sound = λ e there. better_of h ns i x m (denoted ties e) at same less (q.sound e there);
}

-- a better node with its entry
better_open : (ties : Ties) (h : List ℕ → Distance) (ns : List Node) (ever : List Bool) (es : List OpenEntry) (i : ℕ) (x m : Node) (f : ℕ)
    → AreQueued ties h ns ever es → At ns i x → x.state ≡ m.state → rank_less m.cost m.steps x.cost x.steps ≡ true
    → Finite f ≡ Finite m.cost +ᵈ h m.state → f ≤ 2 ^ 63 → IsSmall (entry_of f m.cost m.steps i)
    → AreQueued ties h (slice_set ns i m) ever (keyed_in ties ever (entry_of f m.cost m.steps i) ∷ es)
better_open ties h ns ever es i x m f q at same less is within small =
    one_queued ties h ns (slice_set ns i m) ever es i m f q (mark_there ns i m x at) (λ e. better_of h ns i x m e at same less)
    (λ j n there. ⊎_elim (λ (p : (j ≡ i) × (m ≡ n)). inl p) (λ (p : (j ≡ i → ⊥) × At ns j n). inr p.1) (set_at ns i x m j n at there))
    is within small

-- the entry that goes into the list, and those that were there
pub added_stored : (ties : Ties) (ever : List Bool) (added es1 es2 : List OpenEntry) → IsPermutation (map (keyed_in ties ever) added ++ es1) es2
    → All IsSmall added → All (IsKeyed ties) es1 → All (IsKeyed ties) es2
added_stored ties ever added es1 es2 p small q =
    All-permutation (IsKeyed ties) (map (keyed_in ties ever) added ++ es1) es2 p
    (All-append (IsKeyed ties) (map (keyed_in ties ever) added) es1 (all_stored added small) q)
  where
    all_stored : (xs : List OpenEntry) → All IsSmall xs → All (IsKeyed ties) (map (keyed_in ties ever) xs)
    all_stored xs all = all_contained (IsKeyed ties) (map (keyed_in ties ever) xs)
        (λ e there. let b = contains_back (keyed_in ties ever) xs e there in
        subst (IsKeyed ties) b.2 (stored_in ties ever b.0 (All-contains IsSmall xs b.0 all b.1)))

only_small : (x : OpenEntry) → All IsSmall (x ∷ []) → IsSmall x
only_small x all = All-contains IsSmall (x ∷ []) x all (in_front_of x [])

-- the state is reached, and its entry put in where there is one
pub reached_queued : (ties : Ties) (h : List ℕ → Distance) (ns : List Node) (ever : List Bool) (es1 es2 : List OpenEntry) (state : List ℕ) (rank : Rank)
    (parent : Option Parent) (f : Option ℕ) (o : Outcome) → AreQueued ties h ns ever es1
    → distance_of f ≡ Finite rank.cost +ᵈ h state → IfSome f (λ f. f ≤ 2 ^ 63) → o ≡ outcome_of ns (fresh state rank parent)
    → IsPermutation (map (keyed_in ties ever) (added f rank o) ++ es1) es2 → All IsSmall (added f rank o)
    → AreQueued ties h (reached ns (fresh state rank parent)) ever es2
reached_queued ties h ns ever es1 es2 state rank parent f o q is within came p small =
    ⊎_elim
    (λ (c : IsNew 0 ns m (outcome_of ns m) (reached ns m)).
    put (ns ++ m ∷ []) (New (0 + length ns)) c.1 c.0 (at_new f is within))
    (λ (rest : IsBetter 0 ns m (outcome_of ns m) (reached ns m) ⊎ IsKeptAs ns (outcome_of ns m) (reached ns m)). ⊎_elim
    (λ (b : IsBetter 0 ns m (outcome_of ns m) (reached ns m)).
    put (slice_set ns b.place m) (Better (0 + b.place)) b.nodes b.outcome (at_better f is within b))
    (λ (k : IsKeptAs ns (outcome_of ns m) (reached ns m)). put ns Kept k.1 k.0 (λ _. at_kept f))
    rest)
    (comes ns m)
  where
    m : Node
    m = fresh state rank parent

    put : (ns' : List Node) (o' : Outcome) → reached ns m ≡ ns' → outcome_of ns m ≡ o'
        → (All IsSmall (added f rank o') → AreQueued ties h ns' ever (map (keyed_in ties ever) (added f rank o') ++ es1))
        → AreQueued ties h (reached ns m) ever es2
    put ns' o' nodes outcome queued =
        subst (λ (l : List Node). AreQueued ties h l ever es2) (sym nodes)
        (queued_permuted ties h ns' ever _ es2 p
        (subst (λ (k : Outcome). AreQueued ties h ns' ever (map (keyed_in ties ever) (added f rank k) ++ es1)) (sym (came ∙ outcome))
        (queued (subst (λ (k : Outcome). All IsSmall (added f rank k)) (came ∙ outcome) small))))

    at_new : (f : Option ℕ) → distance_of f ≡ Finite rank.cost +ᵈ h state → IfSome f (λ f. f ≤ 2 ^ 63)
        → All IsSmall (added f rank (New (0 + length ns)))
        → AreQueued ties h (ns ++ m ∷ []) ever (map (keyed_in ties ever) (added f rank (New (0 + length ns))) ++ es1)
    at_new None is within all = closed_queued ties h ns ever es1 m q is
    at_new (Some f) is within all = let e : length ns ≡ 0 + length ns = omega arith in
        subst (λ k. IsSmall (entry_of f rank.cost rank.steps k) → AreQueued ties h (ns ++ m ∷ []) ever (keyed_in ties ever (entry_of f rank.cost rank.steps k) ∷ es1)) e
        (open_queued ties h ns ever es1 m f q is within) (only_small (entry_of f rank.cost rank.steps (0 + length ns)) all)

    at_better : (f : Option ℕ) → distance_of f ≡ Finite rank.cost +ᵈ h state → IfSome f (λ f. f ≤ 2 ^ 63)
        → (b : IsBetter 0 ns m (outcome_of ns m) (reached ns m)) → All IsSmall (added f rank (Better (0 + b.place)))
        → AreQueued ties h (slice_set ns b.place m) ever (map (keyed_in ties ever) (added f rank (Better (0 + b.place))) ++ es1)
    at_better None is within b all = better_closed ties h ns ever es1 b.place b.node m q b.there b.state b.less is
    at_better (Some f) is within b all = let e : b.place ≡ 0 + b.place = omega arith in
        subst (λ k. IsSmall (entry_of f rank.cost rank.steps k) → AreQueued ties h (slice_set ns b.place m) ever (keyed_in ties ever (entry_of f rank.cost rank.steps k) ∷ es1)) e
        (better_open ties h ns ever es1 b.place b.node m f q b.there b.state b.less is within) (only_small (entry_of f rank.cost rank.steps (0 + b.place)) all)

    at_kept : (f : Option ℕ) → AreQueued ties h ns ever (map (keyed_in ties ever) (added f rank Kept) ++ es1)
    at_kept None = q
    at_kept (Some f) = q

-- so it is where the list was in another order before, and the bits say the same; the state's old entry may be first
pub improve_queued : (ties : Ties) (h : List ℕ → Distance) (ns : List Node) (ever ever' : List Bool) (es0 es1 es2 : List OpenEntry) (state : List ℕ) (rank : Rank)
    (parent : Option Parent) (f : Option ℕ) (o : Outcome) → SameBits ever ever' → IsQueue ties h ns ever es0 → IsPermutation es0 es1
    → distance_of f ≡ Finite rank.cost +ᵈ h state → IfSome f (λ f. f ≤ 2 ^ 63) → o ≡ outcome_of ns (fresh state rank parent)
    → IsPermutation (map (keyed_in ties ever') (added f rank o) ++ es1) es2 → All IsSmall (added f rank o)
    → All (IsKeyed ties) es2 × AreQueued ties h (reached ns (fresh state rank parent)) ever' es2
improve_queued ties h ns ever ever' es0 es1 es2 state rank parent f o same q p0 is within came p1 small =
    let q1 = queue_permuted ties h ns ever' es0 es1 p0 (same_queue ties h ns ever ever' es0 same q) in (
      added_stored ties ever' (added f rank o) es1 es2 p1 small q1.stored,
      reached_queued ties h ns ever' es1 es2 state rank parent f o q1.queued is within came p1 small,
    )

-- the state is new or as it was, and its entry put in where there is one
pub reach_queue : (ties : Ties) (h : List ℕ → Distance) (ns : List Node) (ever ever' : List Bool) (es0 es1 es2 : List OpenEntry) (state : List ℕ) (rank : Rank)
    (parent : Option Parent) (f : Option ℕ) (o : Outcome) → ((i : ℕ) → o ≡ Better i → ⊥) → SameBits ever ever' → IsQueue ties h ns ever es0
    → IsPermutation es0 es1
    → distance_of f ≡ Finite rank.cost +ᵈ h state → IfSome f (λ f. f ≤ 2 ^ 63) → o ≡ outcome_of ns (fresh state rank parent)
    → IsPermutation (map (keyed_in ties ever') (added f rank o) ++ es1) es2 → All IsSmall (added f rank o)
    → IsQueue ties h (reached ns (fresh state rank parent)) ever' es2
reach_queue ties h ns ever ever' es0 es1 es2 state rank parent f o no_better same q p0 is within came p1 small =
    let q1 = queue_permuted ties h ns ever' es0 es1 p0 (same_queue ties h ns ever ever' es0 same q) in
    ⊎_elim
    (λ (c : IsNew 0 ns m (outcome_of ns m) (reached ns m)).
    subst (λ (l : List Node). IsQueue ties h l ever' es2) (sym c.1) (queue_permuted ties h (ns ++ m ∷ []) ever' _ es2 p1
    (subst (λ (k : Outcome). IsQueue ties h (ns ++ m ∷ []) ever' (map (keyed_in ties ever') (added f rank k) ++ es1)) (sym (came ∙ c.0))
    (at_new f is within q1 (subst (λ (k : Outcome). All IsSmall (added f rank k)) (came ∙ c.0) small)))))
    (λ (rest : IsBetter 0 ns m (outcome_of ns m) (reached ns m) ⊎ IsKeptAs ns (outcome_of ns m) (reached ns m)). ⊎_elim
    (λ (b : IsBetter 0 ns m (outcome_of ns m) (reached ns m)). absurd (no_better (0 + b.place) (came ∙ b.outcome)))
    (λ (k : IsKeptAs ns (outcome_of ns m) (reached ns m)).
    subst (λ (l : List Node). IsQueue ties h l ever' es2) (sym k.1) (queue_permuted ties h ns ever' _ es2 p1
    (subst (λ (c : Outcome). IsQueue ties h ns ever' (map (keyed_in ties ever') (added f rank c) ++ es1)) (sym (came ∙ k.0)) (at_kept f q1))))
    rest)
    (comes ns m)
  where
    m : Node
    m = fresh state rank parent

    at_new : (f : Option ℕ) → distance_of f ≡ Finite rank.cost +ᵈ h state → IfSome f (λ f. f ≤ 2 ^ 63) → IsQueue ties h ns ever' es1
        → All IsSmall (added f rank (New (0 + length ns)))
        → IsQueue ties h (ns ++ m ∷ []) ever' (map (keyed_in ties ever') (added f rank (New (0 + length ns))) ++ es1)
    at_new None is within q1 all = new_closed ties h ns ever' es1 m q1 is
    at_new (Some f) is within q1 all = let e : length ns ≡ 0 + length ns = omega arith in
        subst (λ k. IsSmall (entry_of f rank.cost rank.steps k) → IsQueue ties h (ns ++ m ∷ []) ever' (keyed_in ties ever' (entry_of f rank.cost rank.steps k) ∷ es1)) e
        (new_open ties h ns ever' es1 m f q1 is within refl) (only_small (entry_of f rank.cost rank.steps (0 + length ns)) all)

    at_kept : (f : Option ℕ) → IsQueue ties h ns ever' es1 → IsQueue ties h ns ever' (map (keyed_in ties ever') (added f rank Kept) ++ es1)
    at_kept None q1 = q1
    at_kept (Some f) q1 = q1

-- ---- the first entry

current_f : (ties : Ties) (h : List ℕ → Distance) (ns : List Node) (ever : List Bool) (e : OpenEntry) (c : IsCurrent ties ns ever e)
    → IsOf h ns (denoted ties e) → Finite c.node.cost +ᵈ h c.node.state ≡ Finite (denoted ties e).f
current_f ties h ns ever e c o =
    let is : c.node ≡ o.node = at_once ns (denoted ties e).index c.node o.node c.there o.there in
    (λ j. Finite (c.cost j) +ᵈ h ((is j).state)) ∙ o.f

pub is_least : (ties : Ties) (h : List ℕ → Distance) (ns : List Node) (ever : List Bool) (es : List OpenEntry) (x : OpenEntry)
    → IsQueue ties h ns ever es → Contains es x → IsFirst x es → IsLeast ties h ns ever (denoted ties x)
is_least ties h ns ever es x q there first =
    let c = q.top x there first in
    let o = q.queued.sound x there in
    let e : OpenEntry = denoted ties x in
    let small : IsSmall e = denoted_small ties x (All-contains (IsKeyed ties) es x q.stored there) in
    record {
      node = c.node;
      there = c.there;
      waits = c.waits;
      cost = c.cost;
      steps = c.steps;
      f = current_f ties h ns ever x c o;
      within = o.within;
      first = λ j n f at waits is.
          let (y_there, y_small) = q.queued.complete j n f at waits is in
          let y : OpenEntry = entry_of f n.cost n.steps j in
          sym (keyed_order ties (was_expanded ever e.index) (was_expanded ever j) e y c.node n small y_small c.cost c.steps refl refl)
          ∙ subst (λ (z : OpenEntry). comes_first z (keyed_in ties ever y) ≡ true) c.bit (first_before x (keyed_in ties ever y) es first y_there);
    }

pub none_open : (ties : Ties) (h : List ℕ → Distance) (ns : List Node) (ever : List Bool) (es : List OpenEntry) → IsQueue ties h ns ever es
    → es ≡ [] → HasNoneOpen h ns
none_open ties h ns ever es q none i n f at waits is =
    not_in_none (keyed_in ties ever (entry_of f n.cost n.steps i)) es none (q.queued.complete i n f at waits is).0

-- there is one first entry of an open node
pub one_least : (ties : Ties) (h : List ℕ → Distance) (ns : List Node) (ever : List Bool) (es : List OpenEntry) (x e : OpenEntry)
    → IsQueue ties h ns ever es → Contains es x → IsFirst x es → IsLeast ties h ns ever e → denoted ties x ≡ e
one_least ties h ns ever es x e q there first l =
    let c = q.top x there first in
    let o = q.queued.sound x there in
    let z : OpenEntry = denoted ties x in
    let z_small : IsSmall z = denoted_small ties x (All-contains (IsKeyed ties) es x q.stored there) in
    let is : entry_of e.f l.node.cost l.node.steps e.index ≡ e =
    λ j. record { f = e.f; rank = record { cost = l.cost j; steps = l.steps j }; index = e.index } in
    let in_es = q.queued.complete e.index l.node e.f l.there l.waits l.f in
    let there_e : Contains es (keyed_in ties ever e) = subst (λ (y : OpenEntry). Contains es (keyed_in ties ever y)) is in_es.0 in
    let small : IsSmall e = subst IsSmall is in_es.1 in
    let order = keyed_order ties (was_expanded ever e.index) (was_expanded ever z.index) e z l.node c.node small z_small l.cost l.steps c.cost c.steps in
    let back : comes_first (keyed_in ties ever e) x ≡ true =
    subst (λ (y : OpenEntry). comes_first (keyed_in ties ever e) y ≡ true) (sym c.bit)
    (order ∙ l.first z.index c.node z.f c.there c.waits (current_f ties h ns ever x c o)) in
    ap (denoted ties) (first_both x (keyed_in ties ever e) (first_before x (keyed_in ties ever e) es first there_e) back) ∙ denoted_in ties ever e small

-- ---- a node is expanded

-- the entry that is taken out is of a node that is marked
pub marked_queued : (ties : Ties) (h : List ℕ → Distance) (ns : List Node) (ever : List Bool) (es es' : List OpenEntry) (x e : OpenEntry) (n : Node)
    → AreQueued ties h ns ever es → IsPermutation es (x ∷ es') → denoted ties x ≡ e → At ns e.index n
    → AreQueued ties h (slice_set ns e.index (marked n)) (slice_set ever e.index true) es'
marked_queued ties h ns ever es es' x e n q p denotes at = record {
  complete = λ j m f there waits is. ⊎_elim
      (λ (k : (j ≡ e.index) × (marked n ≡ m)). absurd (true≢false (ap (λ (y : Node). y.expanded) k.1 ∙ waits)))
      (λ (k : (j ≡ e.index → ⊥) × At ns j m).
      let y : OpenEntry = entry_of f m.cost m.steps j in
      let old = q.complete j m f k.1 waits is in
      let same_bit : keyed_in ties ever y ≡ keyed_in ties (slice_set ever e.index true) y =
      ap (λ (b : Bool). keyed ties b y) (sym (expanded_elsewhere ever e.index true j k.0)) in (
        subst (Contains es') same_bit (⊎_elim
            (λ (same : x ≡ keyed_in ties ever y).
            absurd (k.0 (ap (λ (z : OpenEntry). z.index) (sym (denoted_in ties ever y old.1) ∙ ap (denoted ties) (sym same) ∙ denotes))))
            (λ (kept : Contains es' (keyed_in ties ever y)). kept)
            (first_or_rest (keyed_in ties ever y) x es' (Contains-permutation es (x ∷ es') (keyed_in ties ever y) p old.0))),
        old.1,
      ))
      (set_at ns e.index n (marked n) j m at there);
  sound = λ y there. still (denoted ties y) (q.sound y (Contains-permutation (x ∷ es') es y (IsPermutation-sym es (x ∷ es') p) (in_rest y x es' there)));
}
  where
    still : (y : OpenEntry) → IsOf h ns y → IsOf h (slice_set ns e.index (marked n)) y
    still y o =
        ⊎_elim
        (λ (here : y.index ≡ e.index).
        let is : o.node ≡ n = at_once ns e.index o.node n (subst (λ k. At ns k o.node) here o.there) at in
        record {
          node = marked n;
          there = subst (λ k. At (slice_set ns e.index (marked n)) k (marked n)) (sym here) (mark_there ns e.index (marked n) n at);
          f = ap (λ (z : Node). Finite y.rank.cost +ᵈ h z.state) (sym is) ∙ o.f;
          within = o.within;
          cost = let c = o.cost in let s = ap (λ (z : Node). z.cost) is in omega arith;
          steps = λ eq. let c = ap (λ (z : Node). z.cost) is in let s = ap (λ (z : Node). z.steps) is in
              let k = o.steps (c ∙ eq) in omega arith;
        })
        (λ (ne : y.index ≡ e.index → ⊥). record {
          node = o.node;
          there = set_elsewhere ns e.index (marked n) y.index o.node ne o.there;
          f = o.f;
          within = o.within;
          cost = o.cost;
          steps = o.steps;
        })
        (same_or_not y.index e.index)

-- an entry that is out of date is taken out
pub stale_queued : (ties : Ties) (h : List ℕ → Distance) (ns : List Node) (ever : List Bool) (es es' : List OpenEntry) (x : OpenEntry)
    → (IsCurrent ties ns ever x → ⊥) → IsPermutation es (x ∷ es') → AreQueued ties h ns ever es → AreQueued ties h ns ever es'
stale_queued ties h ns ever es es' x stale p q = record {
  complete = λ j m f there waits is.
      let y : OpenEntry = entry_of f m.cost m.steps j in
      let old = q.complete j m f there waits is in (
        ⊎_elim
            (λ (same : x ≡ keyed_in ties ever y). absurd (stale (subst (IsCurrent ties ns ever) (sym same)
            (current_in ties ns ever y m old.1 there waits refl refl))))
            (λ (kept : Contains es' (keyed_in ties ever y)). kept)
            (first_or_rest (keyed_in ties ever y) x es' (Contains-permutation es (x ∷ es') (keyed_in ties ever y) p old.0)),
        old.1,
      );
  sound = λ e there. q.sound e (Contains-permutation (x ∷ es') es e (IsPermutation-sym es (x ∷ es') p) (in_rest e x es' there));
}

-- where the first entry is current, whichever is first is it
pub current_queue : (ties : Ties) (h : List ℕ → Distance) (ns : List Node) (ever : List Bool) (es : List OpenEntry) (x : OpenEntry) → Contains es x
    → IsFirst x es → IsCurrent ties ns ever x → All (IsKeyed ties) es → AreQueued ties h ns ever es → IsQueue ties h ns ever es
current_queue ties h ns ever es x there first c stored q = record {
  stored = stored;
  queued = q;
  top = λ e there' first'. subst (IsCurrent ties ns ever)
      (first_both x e (first_before x e es first there') (first_before e x es first' there)) c;
}

pub empty_queue : (ties : Ties) (h : List ℕ → Distance) (ns : List Node) (ever : List Bool) (es : List OpenEntry) → es ≡ []
    → All (IsKeyed ties) es → AreQueued ties h ns ever es → IsQueue ties h ns ever es
empty_queue ties h ns ever es none stored q =
    record { stored = stored; queued = q; top = λ e there first. absurd (not_in_none e es none there) }

pub no_queue : (ties : Ties) (h : List ℕ → Distance) (ns : List Node) (ever : List Bool) (es : List OpenEntry) → ns ≡ [] → es ≡ []
    → IsQueue ties h ns ever es
no_queue ties h ns ever es none empty = record {
  stored = subst (All (IsKeyed ties)) (sym empty) (All-nil (IsKeyed ties));
  queued = record {
    complete = λ i n f at waits is. absurd (subst (λ (l : List Node). At l i n) none at);
    sound = λ e there. absurd (not_in_none e es empty there);
  };
  top = λ e there first. absurd (not_in_none e es empty there);
}

pub entries_below : (ties : Ties) (h : List ℕ → Distance) (ns : List Node) (ever : List Bool) (es : List OpenEntry) → AreQueued ties h ns ever es
    → All (λ e. (denoted ties e).index < length ns) es
entries_below ties h ns ever es q = all_contained (λ e. (denoted ties e).index < length ns) es
    (λ e there. let o = q.sound e there in at_below ns (denoted ties e).index o.node o.there)

pub least_none : (ties : Ties) (h : List ℕ → Distance) (ns : List Node) (ever : List Bool) (es : List OpenEntry) (r : Option OpenEntry)
    → IsQueue ties h ns ever es → es ≡ [] → IfNone r (HasNoneOpen h ns)
least_none ties h ns ever es None q none = none_open ties h ns ever es q none
least_none ties h ns ever es (Some e) q none = tt

-- what is popped is the first entry
pub popped_first : (es es' : List OpenEntry) (x : OpenEntry) (r : Option OpenEntry) → Contains es x → IsFirst x es
    → IfSome r (λ e. IsFirst e es) → IfSome r (λ e. IsPermutation es (e ∷ es')) → IfNone r (es ≡ []) → IsPermutation es (x ∷ es')
popped_first es es' x None there first f p none = absurd (not_in_none x es none there)
popped_first es es' x (Some e) there first f p none =
    let in_es = Contains-permutation (e ∷ es') es e (IsPermutation-sym es (e ∷ es') p) (in_front_of e es') in
    let same = first_both e x (first_before e x es f there) (first_before x e es first in_es) in
    subst (λ (y : OpenEntry). IsPermutation es (y ∷ es')) same p

pub fewer : (es es' : List OpenEntry) (x : OpenEntry) → IsPermutation es (x ∷ es') → length es' < length es
fewer es es' x p = let e = length_permutation es (x ∷ es') p in omega arith

-- what holds of all entries holds of those that are left
pub rest_all : (P : OpenEntry → Type 0) (es es' : List OpenEntry) (x : OpenEntry) → IsPermutation es (x ∷ es') → All P es → All P es'
rest_all P es es' x p h = All-tail P x es' (All-permutation P es (x ∷ es') p h)

-- ---- the next node is marked

no_least : (ties : Ties) (h : List ℕ → Distance) (ns : List Node) (ever : List Bool) (es : List OpenEntry) (e : OpenEntry) → IsQueue ties h ns ever es
    → es ≡ [] → IsLeast ties h ns ever e → ⊥
no_least ties h ns ever es e q none l = none_open ties h ns ever es q none e.index l.node e.f l.there l.waits l.f

-- where an entry is of the node that is expanded next, what is popped denotes this entry
module _ (ties : Ties) (h : List ℕ → Distance) (ns ns' : List Node) (ever : List Bool) (es es' : List OpenEntry) (e : OpenEntry)
    (q : IsQueue ties h ns ever es) (least : IsLeast ties h ns ever e)
    (is : (n : Node) → slice_get ns e.index ≡ Some n → ns' ≡ slice_set ns e.index (marked n)) where
  popped_least : (x : OpenEntry) → IsFirst x es → IsPermutation es (x ∷ es') → (e' : OpenEntry) → IsLeast ties h ns ever e' → denoted ties x ≡ e'
  popped_least x first p e' least' =
      one_least ties h ns ever es x e' q (Contains-permutation (x ∷ es') es x (IsPermutation-sym es (x ∷ es') p) (in_front_of x es')) first least'

  -- the node is marked, and the other entries are queued then
  pub rest_queued : (r : Option OpenEntry) → IfSome r (λ x. IsFirst x es) → IfSome r (λ x. IsPermutation es (x ∷ es')) → IfNone r (es ≡ [])
      → All (IsKeyed ties) es' × AreQueued ties h ns' (slice_set ever e.index true) es'
  rest_queued None first p none = absurd (no_least ties h ns ever es e q none least)
  rest_queued (Some x) first p none = (
    rest_all (IsKeyed ties) es es' x p q.stored,
    subst (λ (l : List Node). AreQueued ties h l (slice_set ever e.index true) es') (sym (is least.node (get_at ns e.index least.node least.there)))
        (marked_queued ties h ns ever es es' x e least.node q.queued p (popped_least x first p e least) least.there),
  )

  -- it is the only one that comes first
  pub one_expanded : (r : Option OpenEntry) → IfSome r (λ x. IsFirst x es) → IfSome r (λ x. IsPermutation es (x ∷ es')) → IfNone r (es ≡ [])
      → (e' : OpenEntry) → IsLeast ties h ns ever e' → e.index ≡ e'.index
  one_expanded None first p none e' least' = absurd (no_least ties h ns ever es e q none least)
  one_expanded (Some x) first p none e' least' =
      ap (λ (y : OpenEntry). y.index) (sym (popped_least x first p e least) ∙ popped_least x first p e' least')

  pub marks_least : (r : Option OpenEntry) → IfSome r (λ x. IsFirst x es) → IfSome r (λ x. IsPermutation es (x ∷ es')) → IfNone r (es ≡ [])
      → (e' : OpenEntry) (n : Node) → IsLeast ties h ns ever e' → At ns e'.index n → ns' ≡ slice_set ns e'.index (marked n)
  marks_least r first p none e' n least' at =
      let i : e.index ≡ e'.index = one_expanded r first p none e' least' in
      subst (λ k. ns' ≡ slice_set ns k (marked n)) i (is n (get_at ns e.index n (subst (λ k. At ns k n) (sym i) at)))

-- a node that was marked and is marked as not expanded again is as it was
set_back : (ns : List Node) (i : ℕ) (n : Node) → At ns i n → n.expanded ≡ false
    → slice_set (slice_set ns i (marked n)) i (record (marked n) { expanded = false }) ≡ ns
set_back [] i n at waits = absurd at
set_back (x ∷ ns) zero n at waits =
    ap (λ (y : Node). y ∷ ns) (ap (λ (b : Bool). record n { expanded = b }) (sym waits) ∙ sym at)
set_back (x ∷ ns) (suc i) n at waits = ap (λ (l : List Node). x ∷ l) (set_back ns i n at waits)

module _ (ties : Ties) (h : List ℕ → Distance) (ns ns' : List Node) (ever : List Bool) (e : OpenEntry)
    (least : IsLeast ties h ns ever e) (is : (n : Node) → slice_get ns e.index ≡ Some n → ns' ≡ slice_set ns e.index (marked n)) where
  first : ns' ≡ slice_set ns e.index (marked least.node)
  first = is least.node (get_at ns e.index least.node least.there)

  there : At ns' e.index (marked least.node)
  there = subst (λ (l : List Node). At l e.index (marked least.node)) (sym first)
      (mark_there ns e.index (marked least.node) least.node least.there)

  pub marked_below : e.index < length ns'
  marked_below = at_below ns' e.index (marked least.node) there

  pub reopened : (back : List Node) → ((n : Node) → slice_get ns' e.index ≡ Some n → back ≡ slice_set ns' e.index (record n { expanded = false }))
      → back ≡ ns
  reopened back told =
      told (marked least.node) (get_at ns' e.index (marked least.node) there)
      ∙ ap (λ (l : List Node). slice_set l e.index (record (marked least.node) { expanded = false })) first
      ∙ set_back ns e.index least.node least.there least.waits
