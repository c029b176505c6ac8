-- Following parents over the ends of owners.
use Rattle.std.proofs.Common.{◌≡◌, ℕ, suc, ◌+◌, ◌*◌, ◌<◌, ◌≤◌, Bool, true, false, List, [], ◌∷◌, ◌++◌, length, Option, Some, None, reverse, refl, sym, ap, subst, ◌∙◌, inl, inr, arith, true≢false, append_assoc}
use Rattle.std.proofs.lemmas.List.{append-nil}
use Rattle.std.proofs.Math.Nat.{mul-le-mul_right}
use Rattle.std.specs.Prelude.{IsSomeAnd, slice_get, option_map}
use Rattle.std.specs.Option.{option_map_or}
use Rattle.cost.specs.Distances.{Finite}
use Rattle.fdr.specs.Tasks.{IsPlan, state_after, is_goal_state, plan_cost}
use Rattle.closed.specs.declared.table.Entry.{Entry}
use Rattle.closed.specs.declared.message.Parent as memory
use Rattle.closed.specs.Tables.{parent_of, node_with}
use Rattle.owner_theory.specs.Owners.{At, Node, Parent, rank_less}
use Rattle.owner_theory.specs.Families.{Family, Follows, IsBelow, IsSearchSpace, IsLowerBound}
use Rattle.owner_theory.proofs.Lists as lists
use Rattle.owner_theory.proofs.Plans.{parents_fall, follows_lead, settled_plan_cost}
use Rattle.owner_theory.proofs.Runs.{good}
use Rattle.owner.specs.Owned.{OwnerOf}
use Rattle.extract.specs.Ends.{EndOf, IsEndOf, IsSettledAt, IsGoalNodeAt, IsBestGoal, space_at}
use Rattle.extract.proofs.Places.{at_below, at_some, at_get}
use Rattle.extract.proofs.Families.{to_family, best_cost}
use Rattle.extract.proofs.Truncated.{told_test, told_some, told_at_most, told_equal}

-- the node stands at that place of that owner
pub record IsNodeAt {S : Type 0} (e : EndOf S) (w i : ℕ) (n : Node) : Type 0 where
  pub holder : OwnerOf S
  pub owner : At e.owners w holder
  pub there : At holder.nodes i n

-- what is kept of a node of an owner
abbrev pub IsEntryOf : {S : Type 0} → EndOf S → Entry → Type 0
IsEntryOf e entry = (w i : ℕ) × (n : Node) × IsNodeAt e w i n × (n ≡ node_with n.state entry)

abbrev pub parent_in : Entry → Option Parent
parent_in entry = option_map parent_of entry.parent

-- following parents from this one leads to the start over these operators, the last one first
abbrev pub FollowsParent : {S : Type 0} → EndOf S → Option Parent → List ℕ → Type 0
FollowsParent e parent [] = parent ≡ None
FollowsParent e parent (o ∷ back) =
    (p : Parent) × (parent ≡ Some p) × (p.operator ≡ o)
    × ((n : Node) × IsNodeAt e p.worker p.index n × FollowsParent e n.parent back)

-- the rank of what the parent names is less
abbrev is_below : {S : Type 0} → List (OwnerOf S) → Parent → ℕ → ℕ → Bool
is_below owners p cost steps =
    option_map_or (λ o. option_map_or (λ n. rank_less n.cost n.steps cost steps) (slice_get o.nodes p.index) false)
    (slice_get owners p.worker) false

rank_test : (c s c' s' : ℕ) → IsBelow c s c' s' → rank_less c s c' s' ≡ true
rank_test c s c' s' h = grind arith

rank_from : (c s c' s' : ℕ) → rank_less c s c' s' ≡ true → IsBelow c s c' s'
rank_from c s c' s' h = grind arith

module _ {S : Type 0} (owner : S → List ℕ → ℕ → ℕ) (e : EndOf S) where
  abbrev Lawful : Type 0
  Lawful = (family : Family) × IsEndOf owner e family

  ParentThere : Node → Parent → Type 0
  ParentThere n p = (origin : Node) × IsNodeAt e p.worker p.index origin × IsBelow origin.cost origin.steps n.cost n.steps

  from_test : (p : Parent) (cost steps : ℕ) → is_below e.owners p cost steps ≡ true
      → (origin : Node) × IsNodeAt e p.worker p.index origin × IsBelow origin.cost origin.steps cost steps
  from_test p cost steps t = from_owner (slice_get e.owners p.worker) refl t
    where
      from_node : (o : OwnerOf S) (r : Option Node) → slice_get e.owners p.worker ≡ Some o → slice_get o.nodes p.index ≡ r
          → option_map_or (λ n. rank_less n.cost n.steps cost steps) r false ≡ true
          → (origin : Node) × IsNodeAt e p.worker p.index origin × IsBelow origin.cost origin.steps cost steps
      from_node o None is_o is t = absurd (true≢false (sym t))
      from_node o (Some n) is_o is t = (
        n,
        record { holder = o; owner = lists.at_get e.owners p.worker o is_o; there = lists.at_get o.nodes p.index n is },
        rank_from n.cost n.steps cost steps t,
      )

      from_owner : (r : Option (OwnerOf S)) → slice_get e.owners p.worker ≡ r
          → option_map_or (λ o. option_map_or (λ n. rank_less n.cost n.steps cost steps) (slice_get o.nodes p.index) false) r false ≡ true
          → (origin : Node) × IsNodeAt e p.worker p.index origin × IsBelow origin.cost origin.steps cost steps
      from_owner None is t = absurd (true≢false (sym t))
      from_owner (Some o) is t = from_node o (slice_get o.nodes p.index) is refl t

  module _ (ok : IsSearchSpace (space_at owner e)) where
    family_test : Lawful → (w i : ℕ) (n : Node) (p : Parent) → IsNodeAt e w i n → n.parent ≡ Some p → is_below e.owners p n.cost n.steps ≡ true
    family_test (family, ends) w i n p at is =
        let at_n = subst (λ (ns : List Node). At ns i n) (sym (ends.nodes w at.holder at.owner)) at.there in
        let (origin, at_origin, below) = parents_fall (space_at owner e) family ok ends.lawful w i n p at_n is in
        let known = good (space_at owner e) p.worker (family.logs p.worker) ok (ends.lawful.runs p.worker) in
        let own = (known.core.own p.index origin at_origin).1 in
        let lt : p.worker < length e.owners = subst (λ k. k < length e.owners) own (ok.owner origin.state) in
        let (o, at_o) = at_some e.owners p.worker lt in
        let there = at_get o.nodes p.index origin (subst (λ (ns : List Node). At ns p.index origin) (ends.nodes p.worker o at_o) at_origin) in
        ap (λ (r : Option (OwnerOf S)).
        option_map_or (λ o. option_map_or (λ n'. rank_less n'.cost n'.steps n.cost n.steps) (slice_get o.nodes p.index) false) r false)
        (at_get e.owners p.worker o at_o)
        ∙ ap (λ (r : Option Node). option_map_or (λ n'. rank_less n'.cost n'.steps n.cost n.steps) r false) there
        ∙ rank_test origin.cost origin.steps n.cost n.steps below

    -- a parent's node is there, at a lesser rank
    pub parent_there : ∥ Lawful ∥₁ → (w i : ℕ) (n : Node) (p : Parent) → IsNodeAt e w i n → n.parent ≡ Some p
        → (origin : Node) × IsNodeAt e p.worker p.index origin × IsBelow origin.cost origin.steps n.cost n.steps
    parent_there lawful w i n p at is =
        from_test p n.cost n.steps
        (told_test lawful (is_below e.owners p n.cost n.steps) (λ l. family_test l w i n p at is))

    follows_family : (family : Family) → IsEndOf owner e family → (back : List ℕ) (w i : ℕ) (n : Node) → IsNodeAt e w i n
        → FollowsParent e n.parent back → Follows family w i back
    follows_family family ends [] w i n at follows =
        (n, subst (λ (ns : List Node). At ns i n) (sym (ends.nodes w at.holder at.owner)) at.there, follows)
    follows_family family ends (o ∷ back) w i n at (p, is, by, (m, at_m, rest)) = (
      n,
      p,
      subst (λ (ns : List Node). At ns i n) (sym (ends.nodes w at.holder at.owner)) at.there,
      is,
      by,
      follows_family family ends back p.worker p.index m at_m rest,
    )

    module _ (lawful : ∥ Lawful ∥₁) (back : List ℕ) (w i : ℕ) (n : Node) (goal : IsGoalNodeAt e w i n)
        (follows : FollowsParent e n.parent back)
      where
        abbrev At_node : IsNodeAt e w i n
        At_node = record { holder = goal.holder; owner = goal.owner; there = goal.there }

        abbrev Leads : Lawful → Type 0
        Leads l =
            (state_after e.space.task e.space.task.initial (reverse back) ≡ Some n.state)
            × (plan_cost e.space.task (reverse back) ≤ n.cost)

        leads : (l : Lawful) → Leads l
        leads (family, ends) =
            follows_lead (space_at owner e) family ok ends.lawful back w i n
            (subst (λ (ns : List Node). At ns i n) (sym (ends.nodes w goal.holder goal.owner)) goal.there)
            (follows_family family ends back w i n At_node follows)

        pub follows_plan : IsPlan e.space.task (reverse back)
        follows_plan =
            told_some lawful (λ s. is_goal_state e.space.task s) (state_after e.space.task e.space.task.initial (reverse back))
            (λ l. subst (λ r. IsSomeAnd r (λ s. is_goal_state e.space.task s ≡ true)) (sym (leads l).0) goal.goal)

        pub follows_at_most : plan_cost e.space.task (reverse back) ≤ n.cost
        follows_at_most = told_at_most lawful (plan_cost e.space.task (reverse back)) n.cost (λ l. (leads l).1)

    module _ (lawful : ∥ Lawful ∥₁) (low : IsLowerBound e.space.task (space_at owner e).heuristic) (back : List ℕ) (w i : ℕ)
        (best : IsBestGoal e (Some (w, i))) (follows : FollowsParent e best.0.parent back)
      where
        pub follows_exact : (cost : ℕ) → IsSettledAt (space_at owner e) e.owners e.left (Finite cost)
            → plan_cost e.space.task (reverse back) ≡ cost
        follows_exact cost settled =
            let n : Node = best.0 in
            let goal : IsGoalNodeAt e w i n = best.1 in
            told_equal lawful (plan_cost e.space.task (reverse back)) cost (λ l.
            let family : Family = l.0 in
            let ends : IsEndOf owner e family = l.1 in
            settled_plan_cost (space_at owner e) family cost w i back ok low ends.lawful
            (to_family owner e family ends (Finite cost) settled) (
              n,
              at_below e.owners w goal.holder goal.owner,
              subst (λ (ns : List Node). At ns i n) (sym (ends.nodes w goal.holder goal.owner)) goal.there,
              goal.goal,
              best_cost owner e family ends ok w i cost best settled,
            )
            (follows_family family ends back w i n
            (record { holder = goal.holder; owner = goal.owner; there = goal.there }) follows))

-- ---- as the loop goes

module _ {S : Type 0} (e : EndOf S) where
  pub goal_stands : (w i : ℕ) (n : Node) → IsGoalNodeAt e w i n → IsNodeAt e w i n
  goal_stands w i n goal = record { holder = goal.holder; owner = goal.owner; there = goal.there }

  module _ (owners : List (OwnerOf S)) (same : owners ≡ e.owners) (w i : ℕ) (n : Node) (at : IsNodeAt e w i n) where
    abbrev Holder : At owners w at.holder
    Holder = subst (λ (os : List (OwnerOf S)). At os w at.holder) (sym same) at.owner

    pub worker_within : w < length owners
    worker_within = at_below owners w at.holder Holder

    pub index_within : (o : OwnerOf S) → At owners w o → i < length o.nodes
    index_within o at_o =
        at_below o.nodes i n
        (subst (λ (h : OwnerOf S). At h.nodes i n) (lists.at_once owners w at.holder o Holder at_o) at.there)

    pub entry_there : (entry : Entry) → ((o : OwnerOf S) (n : Node) → At owners w o → At o.nodes i n → n ≡ node_with n.state entry)
        → n ≡ node_with n.state entry
    entry_there entry told = told at.holder n Holder at.there

  parent_same : (n : Node) (entry : Entry) → n ≡ node_with n.state entry → n.parent ≡ parent_in entry
  parent_same n entry is = ap (λ (x : Node). x.parent) is

  -- the next node
  pub next_node : (owner : S → List ℕ → ℕ → ℕ) → IsSearchSpace (space_at owner e) → ∥ ((family : Family) × IsEndOf owner e family) ∥₁
      → (entry : Entry) (parent : memory.Parent) → IsEntryOf e entry → entry.parent ≡ Some parent
      → (origin : Node) × IsNodeAt e parent.worker parent.index origin
      × IsBelow origin.cost origin.steps entry.rank.cost entry.rank.steps
  next_node owner ok lawful entry parent (w, i, n, at, is) has =
      let (origin, at_origin, below) =
      parent_there owner e ok lawful w i n (parent_of parent) at (parent_same n entry is ∙ ap (option_map parent_of) has) in
      (origin, at_origin, subst (λ (x : Node). IsBelow origin.cost origin.steps x.cost x.steps) is below)

  -- one operator more
  pub leads_on : (start : Option Parent) (entry next : Entry) (parent : memory.Parent) (origin : Node) (plan after : List ℕ)
      → ((back : List ℕ) → FollowsParent e (parent_in entry) back → FollowsParent e start (plan ++ back))
      → entry.parent ≡ Some parent → IsNodeAt e parent.worker parent.index origin → origin ≡ node_with origin.state next
      → after ≡ plan ++ parent.operator ∷ [] → (back : List ℕ) → FollowsParent e (parent_in next) back
      → FollowsParent e start (after ++ back)
  leads_on start entry next parent origin plan after leads has at is pushed back follows =
      let all = leads (parent.operator ∷ back) (
        parent_of parent,
        ap (option_map parent_of) has,
        refl,
        (origin, at, subst (λ (p : Option Parent). FollowsParent e p back) (sym (parent_same origin next is)) follows),
      ) in
      let joined : after ++ back ≡ plan ++ parent.operator ∷ back =
      ap (λ (xs : List ℕ). xs ++ back) pushed ∙ append_assoc plan (parent.operator ∷ []) back in
      subst (FollowsParent e start) (sym joined) all

  -- the start is reached
  pub all_followed : (n : Node) (first entry : Entry) (plan : List ℕ) → n ≡ node_with n.state first
      → ((back : List ℕ) → FollowsParent e (parent_in entry) back → FollowsParent e (parent_in first) (plan ++ back))
      → entry.parent ≡ None → FollowsParent e n.parent plan
  all_followed n first entry plan is leads none =
      let all : FollowsParent e (parent_in first) (plan ++ []) = leads [] (ap (option_map parent_of) none) in
      subst (λ (p : Option Parent). FollowsParent e p plan) (sym (parent_same n first is))
      (subst (FollowsParent e (parent_in first)) (append-nil plan) all)

-- ranks in one number
pub rank_falls : (limit c s c' s' : ℕ) → s < limit → IsBelow c s c' s' → c * limit + s < c' * limit + s'
rank_falls limit c s c' s' small (inl lt) =
    let more : suc c * limit ≤ c' * limit = mul-le-mul_right limit lt in omega arith
rank_falls limit c s c' s' small (inr (same, lt)) = let products : c * limit ≡ c' * limit = ap (λ k. k * limit) same in omega arith
