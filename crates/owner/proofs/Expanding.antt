-- What the expansion of the next node comes to.
use Rattle.std.proofs.Common.{◌≡◌, ◌⊎◌, ℕ, zero, suc, ◌+◌, ◌<◌, ◌≤◌, ◌^◌, Bool, true, false, ◌||◌, List, [], ◌∷◌, length, Some, None, All, refl, sym, ap, ◌∙◌, subst, inl, inr, ⊎_elim, arith, true≢false, cond, add-one}
use Rattle.std.specs.Prelude.{not, slice_set, filter, filter_map, nat_lt, is_some, Result, Ok, Err, IfErr, IsErrAnd}
use Rattle.std.specs.List.{list_any, range_with_len}
use Rattle.std.proofs.lemmas.Bool.{or_parts, or_cases, not-false}
use Rattle.std.proofs.lemmas.Bool.Decides.{nat_tests}
use Rattle.std.proofs.lemmas.List.Elements.{All-nil, All-cons}
use Rattle.cost.specs.Distances.{Distance, Finite, is_at_most}
use Rattle.fdr.specs.Tasks.{FiniteDomainTask, ranges, IsState, applies_at, cost_of}
use Rattle.fdr_successors.specs.Applicable.{applicable_operators}
use Rattle.owner_theory.specs.Owners.{At, Node, marked, mark_node, treat_all, successor_by, successors, expanded_at}
use Rattle.owner_theory.specs.Worlds.{waiting}
use Rattle.owner_theory.proofs.Lists.{in_range, at_below}
use Rattle.owner_theory.proofs.States.{step_there}
use Rattle.owner_theory.proofs.Successors.{successors_by_applicable}
use Rattle.openlist.specs.declared.entry.Rank.{Rank}
use Rattle.openlist.specs.declared.entry.OpenEntry.{OpenEntry}
use Rattle.closed.specs.Tables.{padded, fresh}
use Rattle.owner.specs.declared.fault.OwnerFault.{OwnerFault}
use Rattle.owner.specs.declared.fault.OwnerFault.TheVariants.{OutOfMemory}
use Rattle.owner.specs.Owned.{OwnerOf, space_of, under, max_total, HasSmallSuccessors, HasLargeSuccessor, Expands, IsRefusal}
use Rattle.owner_reached.specs.Queues.{IsLeast, h_of}
use Rattle.owner_space.specs.Steps.{IsSmallStep}
use Rattle.owner_space.specs.Late.{is_late, all_are_late}
use Rattle.owner.specs.Held.{IsOwner}
use Rattle.owner.proofs.Choosing.{is_next, may_be_expanded}
use Rattle.owner.proofs.LateSuccessors.{late_dropped, late_by, late_small, late_treated}
use Rattle.scp.proofs.Applying.{applied_step}

-- ---- tests of the operators that apply

any_in : (p test : ℕ → Bool) (xs : List ℕ) → list_any test (filter p xs) ≡ true → (x : ℕ) × (p x ≡ true) × (test x ≡ true)
any_in p test [] h = absurd (true≢false (sym h))
any_in p test (x ∷ xs) h = go (p x) refl (any_in p test xs) h
  where
    go : (b : Bool) → p x ≡ b → (list_any test (filter p xs) ≡ true → (y : ℕ) × (p y ≡ true) × (test y ≡ true))
        → list_any test (cond b (x ∷ filter p xs) (filter p xs)) ≡ true → (y : ℕ) × (p y ≡ true) × (test y ≡ true)
    go true e rest k = ⊎_elim (λ (t : test x ≡ true). (x, e, t)) (λ (t : list_any test (filter p xs) ≡ true). rest t)
        (or_cases (test x) (list_any test (filter p xs)) k)
    go false e rest k = rest k

none_in : (p test : ℕ → Bool) (xs : List ℕ) (i x : ℕ) → At xs i x → p x ≡ true → list_any test (filter p xs) ≡ false → test x ≡ false
none_in p test [] i x at e h = absurd at
none_in p test (y ∷ xs) zero x at e h = go (p y) refl h
  where
    go : (b : Bool) → p y ≡ b → list_any test (cond b (y ∷ filter p xs) (filter p xs)) ≡ false → test x ≡ false
    go true k h' = ap test (sym at) ∙ (or_parts (test y) (list_any test (filter p xs)) h').0
    go false k h' = absurd (true≢false (sym (ap p at ∙ e) ∙ k))
none_in p test (y ∷ xs) (suc i) x at e h = none_in p test xs i x at e (go (p y) h)
  where
    go : (b : Bool) → list_any test (cond b (y ∷ filter p xs) (filter p xs)) ≡ false → list_any test (filter p xs) ≡ false
    go true h' = (or_parts (test y) (list_any test (filter p xs)) h').1
    go false h' = h'

filtered : (p : ℕ → Bool) (xs : List ℕ) → All (λ x. p x ≡ true) (filter p xs)
filtered p [] = All-nil (λ x. p x ≡ true)
filtered p (x ∷ xs) = go (p x) refl (filtered p xs)
  where
    go : (b : Bool) → p x ≡ b → All (λ y. p y ≡ true) (filter p xs) → All (λ y. p y ≡ true) (cond b (x ∷ filter p xs) (filter p xs))
    go true e rest = All-cons (λ y. p y ≡ true) x (filter p xs) e rest
    go false e rest = rest

all_not : (test : ℕ → Bool) (P : ℕ → Type 0) (xs : List ℕ) → ((x : ℕ) → test x ≡ false → P x) → list_any test xs ≡ false → All P xs
all_not test P [] h none = All-nil P
all_not test P (x ∷ xs) h none =
    let (here, rest) = or_parts (test x) (list_any test xs) none in All-cons P x xs (h x here) (all_not test P xs h rest)

-- an operator leads from the rank to one that is too great
abbrev pub is_large : FiniteDomainTask → Rank → ℕ → Bool
is_large task rank o = nat_lt max_total (rank.cost + cost_of task o) || nat_lt max_total (rank.steps + 1)

large_or : (a b m : ℕ) → (nat_lt m a || nat_lt m b) ≡ true → (m < a) ⊎ (m < b)
large_or a b m h = ⊎_elim (λ (p : nat_lt m a ≡ true). let q : m < a = grind (arith, nat_tests) in inl q)
    (λ (p : nat_lt m b ≡ true). let q : m < b = grind (arith, nat_tests) in inr q) (or_cases (nat_lt m a) (nat_lt m b) h)

small_and : (a b m : ℕ) → (nat_lt m a || nat_lt m b) ≡ false → (a ≤ m) × (b ≤ m)
small_and a b m h = let (p, q) = or_parts (nat_lt m a) (nat_lt m b) h in (grind (arith, nat_tests), grind (arith, nat_tests))

pub all_apply : (task : FiniteDomainTask) (s : List ℕ) (os : List ℕ) → os ≡ applicable_operators task s
    → All (λ o. applies_at task o s ≡ true) os
all_apply task s os is =
    subst (λ (l : List ℕ). All (λ o. applies_at task o s ≡ true) l) (sym is)
    (filtered (λ o. applies_at task o s) (range_with_len 0 (length task.operators)))

pub all_small : (task : FiniteDomainTask) (rank : Rank) (os : List ℕ) → list_any (is_large task rank) os ≡ false → All (IsSmallStep task rank) os
all_small task rank os none =
    all_not (is_large task rank) (IsSmallStep task rank) os
    (λ o h. small_and (rank.cost + cost_of task o) (rank.steps + 1) max_total h) none

pub large_successor : (task : FiniteDomainTask) (s : List ℕ) (os : List ℕ) (rank : Rank) (n : Node) → os ≡ applicable_operators task s
    → s ≡ n.state → n.cost ≡ rank.cost → n.steps ≡ rank.steps → list_any (is_large task rank) os ≡ true → HasLargeSuccessor task n
large_successor task s os rank n is same cost steps h =
    let (o, applies, large) = any_in (λ o. applies_at task o s) (is_large task rank) (range_with_len 0 (length task.operators))
    (ap (list_any (is_large task rank)) (sym is) ∙ h) in (
      o,
      ap (applies_at task o) (sym same) ∙ applies,
      ⊎_elim
          (λ (p : max_total < rank.cost + cost_of task o). inl (subst (λ k. max_total < k + cost_of task o) (sym cost) p))
          (λ (p : max_total < rank.steps + 1). inr (subst (λ k. max_total < k) (add-one rank.steps ∙ ap suc (sym steps)) p))
          (large_or (rank.cost + cost_of task o) (rank.steps + 1) max_total large),
    )

small_successors : (task : FiniteDomainTask) (s : List ℕ) (os : List ℕ) (rank : Rank) (n : Node) → os ≡ applicable_operators task s
    → s ≡ n.state → n.cost ≡ rank.cost → n.steps ≡ rank.steps → list_any (is_large task rank) os ≡ false → HasSmallSuccessors task n
small_successors task s os rank n is same cost steps h o applies =
    let applies' = ap (applies_at task o) same ∙ applies in
    let (t, leads) = applied_step task s o applies' in
    let lt = step_there task s t o leads in
    let (i, at) = in_range 0 (length task.operators) o (omega arith) (omega arith) in
    let small = small_and (rank.cost + cost_of task o) (rank.steps + 1) max_total
    (none_in (λ k. applies_at task k s) (is_large task rank) (range_with_len 0 (length task.operators)) i o at applies'
    (ap (list_any (is_large task rank)) (sym is) ∙ h)) in (
      subst (λ k. k + cost_of task o ≤ max_total) (sym cost) small.0,
      subst (λ k. k ≤ max_total) (add-one rank.steps ∙ ap suc (sym steps)) small.1,
    )

-- ---- the successors

successors_are : (task : FiniteDomainTask) (me i : ℕ) (s : List ℕ) (os : List ℕ) (rank : Rank) (n : Node) → os ≡ applicable_operators task s
    → s ≡ n.state → n.cost ≡ rank.cost → n.steps ≡ rank.steps
    → filter_map (successor_by task me i (fresh s rank None)) os ≡ successors task me i n
successors_are task me i s os rank n is same cost steps =
    ap (filter_map (successor_by task me i (fresh s rank None))) is
    ∙ ((λ j. filter_map (successor_by task me i (record {
      state = same j;
      cost = sym cost j;
      steps = sym steps j;
      parent = None;
      expanded = false;
    })) (applicable_operators task (same j)))
    ∙ successors_by_applicable task me i n)

-- ---- the next node

module _ {S : Type 0} (owner : S → List ℕ → ℕ → ℕ) (o : OwnerOf S) (e : OpenEntry) (l : IsLeast o.space.ties (h_of o.space) o.nodes o.ever e) where
  pub least_index : e.index < length o.nodes
  least_index = at_below o.nodes e.index l.node l.there

  pub least_cost : IsOwner owner o → e.rank.cost ≤ 2 ^ 62
  least_cost h = subst (λ k. k ≤ 2 ^ 62) l.cost ((h.nodes e.index l.node l.there).cost)

  pub least_steps : IsOwner owner o → e.rank.steps ≤ 2 ^ 62
  least_steps h = subst (λ k. k ≤ 2 ^ 62) l.steps ((h.nodes e.index l.node l.there).steps)

  pub least_state : (s : List ℕ) → IsOwner owner o → s ≡ l.node.state → IsState (ranges o.space.task) s
  least_state s h same = subst (IsState (ranges o.space.task)) (sym same) ((h.nodes e.index l.node l.there).state)

  may_expand_here : (bound : Distance) → is_at_most bound (Finite e.f) ≡ false
      → treat_all (space_of owner o) o.worker (mark_node (under o bound) e.index l.node) (successors o.space.task o.worker e.index l.node)
      ≡ expanded_at (space_of owner o) o.worker (under o bound) e.index (Some l.node)
  may_expand_here bound below =
      sym (ap (λ b. cond b (treat_all (space_of owner o) o.worker (mark_node (under o bound) e.index l.node)
      (successors o.space.task o.worker e.index l.node)) (under o bound))
      (may_be_expanded (space_of owner o) o.ever (under o bound) e l below))

  pub expands : (bound : Distance) (s : List ℕ) (os kept : List ℕ) (posted : ℕ) (new : OwnerOf S)
      → is_at_most bound (Finite e.f) ≡ false → (o.space.limit ≡ Some o.expansions → ⊥) → s ≡ l.node.state
      → os ≡ applicable_operators o.space.task s → list_any (is_large o.space.task e.rank) os ≡ false
      → kept ≡ filter (λ k. not (is_late o.space.task bound e.rank k)) os
      → under new bound ≡ treat_all (space_of owner o) o.worker (mark_node (under o bound) e.index l.node)
      (filter_map (successor_by o.space.task o.worker e.index (fresh s e.rank None)) kept)
      → new.ever ≡ padded (slice_set o.ever e.index true) (length new.nodes)
      → waiting new.outboxes ≡ waiting o.outboxes + posted → new.space ≡ o.space → new.worker ≡ o.worker
      → new.expansions ≡ cond (is_some o.space.limit) (suc o.expansions) o.expansions → Expands owner bound o posted new
  expands bound s os kept posted new below allowed same is none kept_is after ever put space worker count =
      let marked_owner = mark_node (under o bound) e.index l.node in
      let by = successor_by o.space.task o.worker e.index (fresh s e.rank None) in
      let dropped = late_dropped (space_of owner o) o.worker by (λ k. not (is_late o.space.task bound e.rank k)) bound
      (λ k m out leads. late_by (space_of owner o) o.worker e.index (fresh s e.rank None) bound k m (not-false (is_late o.space.task bound e.rank k) out) leads)
      os marked_owner refl in
      record {
        index = e.index;
        node = l.node;
        next = is_next (space_of owner o) o.ever o.nodes bound e l below;
        allowed = allowed;
        small = small_successors o.space.task s os e.rank l.node is same l.cost l.steps none;
        after = after
            ∙ (ap (λ (ks : List ℕ). treat_all (space_of owner o) o.worker marked_owner (filter_map by ks)) kept_is
            ∙ (dropped
            ∙ (ap (treat_all (space_of owner o) o.worker marked_owner)
            (successors_are o.space.task o.worker e.index s os e.rank l.node is same l.cost l.steps)
            ∙ may_expand_here bound below)));
        ever = ever;
        put_out = put;
        space = space;
        worker = worker;
        counted = count;
      }

  -- no successor is generated, since all are late
  pub expands_alone : (bound : Distance) (new : OwnerOf S) → is_at_most bound (Finite e.f) ≡ false → (o.space.limit ≡ Some o.expansions → ⊥)
      → all_are_late o.space.task bound e.rank ≡ true
      → new ≡ record o {
        nodes = slice_set o.nodes e.index (marked l.node);
        ever = padded (slice_set o.ever e.index true) (length new.nodes);
        expansions = cond (is_some o.space.limit) (suc o.expansions) o.expansions;
      } → Expands owner bound o 0 new
  expands_alone bound new below allowed late is = record {
    index = e.index;
    node = l.node;
    next = is_next (space_of owner o) o.ever o.nodes bound e l below;
    allowed = allowed;
    small = late_small o.space.task bound e.rank l.node late l.cost l.steps;
    after = ap (λ (x : OwnerOf S). under x bound) is
        ∙ (sym (late_treated (space_of owner o) o.worker e.index l.node e.rank bound (mark_node (under o bound) e.index l.node) refl late l.cost)
        ∙ may_expand_here bound below);
    ever = ap (λ (x : OwnerOf S). x.ever) is;
    put_out = let same = ap (λ (x : OwnerOf S). waiting x.outboxes) is in omega arith;
    space = ap (λ (x : OwnerOf S). x.space) is;
    worker = ap (λ (x : OwnerOf S). x.worker) is;
    counted = ap (λ (x : OwnerOf S). x.expansions) is;
  }

-- a call that is refused since memory is missing
pub refused_memory : {S T : Type 0} (owner : S → List ℕ → ℕ → ℕ) (bound : Distance) (old new : OwnerOf S) (r : Result T OwnerFault)
    → IsErrAnd r (λ e. e ≡ OutOfMemory) → IsRefusal owner bound old new OutOfMemory → IfErr r (IsRefusal owner bound old new)
refused_memory owner bound old new (Ok v) h k = absurd h
refused_memory owner bound old new (Err e) h k = subst (IsRefusal owner bound old new) (sym h) k
