-- What reaching states does to the nodes. An upper crate cites these.
use Rattle.std.proofs.Common.{◌≡◌, ◌⊎◌, inl, Result, Ok, Err, OnErr, ℕ, zero, suc, ◌+◌, ◌≤◌, Bool, true, false, List, [], ◌∷◌, ◌++◌, length, map, fold, Some, refl, sym, ap, ◌∙◌, subst, arith, true≢false, if◌then◌else◌}
use Rattle.std.specs.Prelude.{slice_get, slice_set, All}
use Rattle.std.proofs.lemmas.Bool.{cond_both}
use Rattle.std.proofs.lemmas.List.Elements.{All-cons, All-head, All-tail}
use Rattle.owner_theory.specs.Owners as machine
use Rattle.owner_theory.specs.Owners.{At, Node, same_state, rank_less, node_of, improve}
use Rattle.owner_theory.proofs.States.{same_state-true, same_state_refl}
use Rattle.openlist.specs.declared.entry.Rank.{Rank}
use Rattle.closed.specs.declared.message.Parent.{Parent}
use Rattle.closed.specs.declared.message.Message.{Message}
use Rattle.closed.specs.declared.table.Outcome.{Outcome}
use Rattle.closed.specs.declared.table.Outcome.TheVariants.{New, Better, Kept}
use Rattle.closed.specs.Tables.{parent_of, message_of, fresh, reached, outcome_from, outcome_of, arrival}
use Rattle.closed.specs.Outcomes.{ComesLast, GivesWay, Stays}

-- ---- the nodes are those of an owner that takes the messages

pub arrival-message_of : {F : Type 0} (values : F → List ℕ) (m : Message F) → arrival values m ≡ node_of (message_of values m)
arrival-message_of values m = refl

pub reached-node_of : (nodes : List Node) (m : machine.Message) → reached nodes (node_of m) ≡ improve nodes m
reached-node_of [] m = refl
reached-node_of (n ∷ ns) m =
    ap
    (λ (xs : List Node).
    if same_state n.state m.state
    then (if rank_less m.cost m.steps n.cost n.steps then node_of m ∷ ns else n ∷ ns)
    else n ∷ xs)
    (reached-node_of ns m)

pub reached-arrival : {F : Type 0} (values : F → List ℕ) (nodes : List Node) (m : Message F) →
    reached nodes (arrival values m) ≡ improve nodes (message_of values m)
reached-arrival values nodes m = reached-node_of nodes (message_of values m)

-- a state that this owner reached itself
pub reached-fresh : (nodes : List Node) (state : List ℕ) (rank : Rank) (p : Parent) → reached nodes (fresh state rank (Some p))
    ≡ improve nodes (record { state = state; cost = rank.cost; steps = rank.steps; parent = parent_of p })
reached-fresh nodes state rank p =
    reached-node_of nodes (record { state = state; cost = rank.cost; steps = rank.steps; parent = parent_of p })

-- so are those after several messages, taken one after the other
pub reached_all-arrival : {F : Type 0} (values : F → List ℕ) (ms : List (Message F)) (nodes : List Node) →
    fold reached nodes (map (arrival values) ms) ≡ fold improve nodes (map (message_of values) ms)
reached_all-arrival values [] nodes = refl
reached_all-arrival values (m ∷ ms) nodes =
    reached_all-arrival values ms (reached nodes (arrival values m))
    ∙ ap (λ (xs : List Node). fold improve xs (map (message_of values) ms)) (reached-arrival values nodes m)

-- ---- what an outcome tells

module _ (m : Node) where
  -- what is told where the first node stands at a place
  record NewFrom (nodes : List Node) (j i : ℕ) : Type 0 where
    pub place : i ≡ j + length nodes
    pub absent : (k : ℕ) (n : Node) → At nodes k n → n.state ≡ m.state → ⊥
    pub appended : reached nodes m ≡ nodes ++ m ∷ []

  record BetterFrom (nodes : List Node) (j i : ℕ) : Type 0 where
    pub place : ℕ
    pub node : Node
    pub behind : i ≡ j + place
    pub there : slice_get nodes place ≡ Some node
    pub state : node.state ≡ m.state
    pub rank : rank_less m.cost m.steps node.cost node.steps ≡ true
    pub replaced : reached nodes m ≡ slice_set nodes place m

  other_state : (n : Node) → same_state n.state m.state ≡ false → n.state ≡ m.state → ⊥
  other_state n differs same =
      true≢false (sym (ap (λ (s : List ℕ). same_state n.state s) (sym same) ∙ same_state_refl n.state) ∙ differs)

  later : (n : Node) (ns : List Node) → same_state n.state m.state ≡ false →
      ((k : ℕ) (x : Node) → At ns k x → x.state ≡ m.state → ⊥) →
      (k : ℕ) (x : Node) → At (n ∷ ns) k x → x.state ≡ m.state → ⊥
  later n ns differs none zero x at same = other_state n differs (ap (λ (y : Node). y.state) at ∙ same)
  later n ns differs none (suc k) x at same = none k x at same

  -- the outcome at a node, by whether it has the state and whether the rank is less
  abbrev at_node : Bool → Bool → ℕ → List Node → Outcome
  at_node same less j ns = if same then (if less then Better j else Kept) else outcome_from (suc j) ns m

  -- the nodes after it, likewise
  abbrev from_node : Bool → Bool → Node → List Node → List Node
  from_node same less n ns = if same then (if less then m ∷ ns else n ∷ ns) else n ∷ reached ns m

  reached_is : (same less : Bool) (n : Node) (ns : List Node) → same_state n.state m.state ≡ same →
      rank_less m.cost m.steps n.cost n.steps ≡ less → reached (n ∷ ns) m ≡ from_node same less n ns
  reached_is same less n ns e l =
      ap (λ (b : Bool). from_node b (rank_less m.cost m.steps n.cost n.steps) n ns) e
      ∙ ap (λ (b : Bool). from_node same b n ns) l

  new_from : (nodes : List Node) (j i : ℕ) → outcome_from j nodes m ≡ New i → NewFrom nodes j i
  new_from [] j i h =
      let same : j ≡ i = cc in
      record { place = omega arith; absent = λ k n at _. at; appended = refl }
  new_from (n ∷ ns) j i h =
      go (same_state n.state m.state) (rank_less m.cost m.steps n.cost n.steps) refl refl (new_from ns (suc j) i) h
    where
      go : (same less : Bool) → same_state n.state m.state ≡ same → rank_less m.cost m.steps n.cost n.steps ≡ less →
          (outcome_from (suc j) ns m ≡ New i → NewFrom ns (suc j) i) → at_node same less j ns ≡ New i → NewFrom (n ∷ ns) j i
      go true true e l behind h = absurd (cc)
      go true false e l behind h = absurd (cc)
      go false less e l behind h =
          let rest = behind h in
          record {
            place = let p = rest.place in omega arith;
            absent = later n ns e rest.absent;
            appended = reached_is false less n ns e l ∙ ap (λ (xs : List Node). n ∷ xs) rest.appended;
          }

  better_from : (nodes : List Node) (j i : ℕ) → outcome_from j nodes m ≡ Better i → BetterFrom nodes j i
  better_from [] j i h = absurd (cc)
  better_from (n ∷ ns) j i h =
      go (same_state n.state m.state) (rank_less m.cost m.steps n.cost n.steps) refl refl (better_from ns (suc j) i) h
    where
      go : (same less : Bool) → same_state n.state m.state ≡ same → rank_less m.cost m.steps n.cost n.steps ≡ less →
          (outcome_from (suc j) ns m ≡ Better i → BetterFrom ns (suc j) i) → at_node same less j ns ≡ Better i →
          BetterFrom (n ∷ ns) j i
      go true true e l behind h =
          let here : j ≡ i = cc in
          record {
            place = 0;
            node = n;
            behind = omega arith;
            there = refl;
            state = same_state-true n.state m.state e;
            rank = l;
            replaced = reached_is true true n ns e l;
          }
      go true false e l behind h = absurd (cc)
      go false less e l behind h =
          let rest = behind h in
          record {
            place = suc rest.place;
            node = rest.node;
            behind = let p = rest.behind in omega arith;
            there = rest.there;
            state = rest.state;
            rank = rest.rank;
            replaced = reached_is false less n ns e l ∙ ap (λ (xs : List Node). n ∷ xs) rest.replaced;
          }

  stays_from : (nodes : List Node) (j : ℕ) → outcome_from j nodes m ≡ Kept → Stays nodes m
  stays_from [] j h = absurd (cc)
  stays_from (n ∷ ns) j h =
      go (same_state n.state m.state) (rank_less m.cost m.steps n.cost n.steps) refl refl (stays_from ns (suc j)) h
    where
      go : (same less : Bool) → same_state n.state m.state ≡ same → rank_less m.cost m.steps n.cost n.steps ≡ less →
          (outcome_from (suc j) ns m ≡ Kept → Stays ns m) → at_node same less j ns ≡ Kept → Stays (n ∷ ns) m
      go true true e l behind h = absurd (cc)
      go true false e l behind h =
          record {
            place = 0;
            node = n;
            there = refl;
            state = same_state-true n.state m.state e;
            rank = l;
            same = reached_is true false n ns e l;
          }
      go false less e l behind h =
          let rest = behind h in
          record {
            place = suc rest.place;
            node = rest.node;
            there = rest.there;
            state = rest.state;
            rank = rest.rank;
            same = reached_is false less n ns e l ∙ ap (λ (xs : List Node). n ∷ xs) rest.same;
          }

-- new: the place is the number of nodes, no node has the state, and its own comes last
pub outcome_of-New : (nodes : List Node) (m : Node) (i : ℕ) → outcome_of nodes m ≡ New i → ComesLast nodes m i
outcome_of-New nodes m i h =
    let told = new_from m nodes 0 i h in
    record { place = let p = told.place in omega arith; absent = told.absent; appended = told.appended }

-- what was refused is new, at the number of nodes
pub refused_new : {T E : Type 0} (P : Type 0) (nodes : List Node) (m : Node) (outcome : Outcome) (r : Result T E) →
    outcome ≡ outcome_of nodes m → OnErr r ((i : ℕ) × (outcome ≡ New i)) → OnErr r ((outcome ≡ New (length nodes)) ⊎ P)
refused_new P nodes m outcome (Ok x) told h = tt
refused_new P nodes m outcome (Err e) told h = inl (h.1 ∙ ap New (outcome_of-New nodes m h.0 (sym told ∙ h.1)).place)

-- the same where the outcome was found on the way
pub refused_found : {T E : Type 0} (P : Type 0) (nodes : List Node) (m : Node) (outcome : Outcome) (r : Result T E) →
    outcome ≡ outcome_of nodes m → (i : ℕ) × (outcome ≡ New i) → OnErr r ((outcome_of nodes m ≡ New (length nodes)) ⊎ P)
refused_found P nodes m outcome (Ok x) told h = tt
refused_found P nodes m outcome (Err e) told h =
    inl (sym told ∙ h.1 ∙ ap New (outcome_of-New nodes m h.0 (sym told ∙ h.1)).place)

-- better: the node at the place has the state and a greater rank, and is replaced
pub outcome_of-Better : (nodes : List Node) (m : Node) (i : ℕ) → outcome_of nodes m ≡ Better i → GivesWay nodes m i
outcome_of-Better nodes m i h =
    let told = better_from m nodes 0 i h in
    let here : told.place ≡ i = let p = told.behind in omega arith in
    record {
      node = told.node;
      there = subst (λ (k : ℕ). slice_get nodes k ≡ Some told.node) here told.there;
      state = told.state;
      rank = told.rank;
      replaced = subst (λ (k : ℕ). reached nodes m ≡ slice_set nodes k m) here told.replaced;
    }

-- kept: a node has the state at no greater rank, and the nodes stay
pub outcome_of-Kept : (nodes : List Node) (m : Node) → outcome_of nodes m ≡ Kept → Stays nodes m
outcome_of-Kept nodes m h = stays_from m nodes 0 h

-- the node that is reached stands at the outcome's place
pub slice_get-reached-New : (nodes : List Node) (m : Node) (i : ℕ) → outcome_of nodes m ≡ New i →
    slice_get (reached nodes m) i ≡ Some m
slice_get-reached-New nodes m i h =
    let told = outcome_of-New nodes m i h in
    ap (λ (ns : List Node). slice_get ns i) told.appended
    ∙ ap (λ (k : ℕ). slice_get (nodes ++ m ∷ []) k) told.place
    ∙ last nodes
  where
    last : (ns : List Node) → slice_get (ns ++ m ∷ []) (length ns) ≡ Some m
    last [] = refl
    last (n ∷ ns) = last ns

pub slice_get-reached-Better : (nodes : List Node) (m : Node) (i : ℕ) → outcome_of nodes m ≡ Better i →
    slice_get (reached nodes m) i ≡ Some m
slice_get-reached-Better nodes m i h =
    let told = outcome_of-Better nodes m i h in
    ap (λ (ns : List Node). slice_get ns i) told.replaced ∙ there nodes i told.node told.there
  where
    there : (ns : List Node) (k : ℕ) (n : Node) → slice_get ns k ≡ Some n → slice_get (slice_set ns k m) k ≡ Some m
    there [] k n at = absurd (cc)
    there (x ∷ xs) zero n at = refl
    there (x ∷ xs) (suc k) n at = there xs k n at

-- ---- what holds of every node

-- what holds of every state that is there, and of the one that is reached, holds of every state then
pub All-reached : (P : List ℕ → Type 0) (nodes : List Node) (m : Node) → P m.state → All (λ n. P n.state) nodes →
    All (λ n. P n.state) (reached nodes m)
All-reached P [] m here all = All-cons (λ n. P n.state) m [] here all
All-reached P (n ∷ ns) m here all =
    let Q : Node → Type 0 = λ x. P x.state in
    let first : P n.state = All-head Q n ns all in
    let rest : All Q ns = All-tail Q n ns all in
    let Good : List Node → Type 0 = λ xs. All Q xs in
    cond_both (same_state n.state m.state) _ _ Good
    (λ _. cond_both (rank_less m.cost m.steps n.cost n.steps) _ _ Good (λ _. All-cons Q m ns here rest) (λ _. all))
    (λ _. All-cons Q n (reached ns m) first (All-reached P ns m here rest))

-- no node goes
pub length-reached : (nodes : List Node) (m : Node) → length nodes ≤ length (reached nodes m)
length-reached [] m = omega arith
length-reached (n ∷ ns) m =
    let Longer : List Node → Type 0 = λ xs. length (n ∷ ns) ≤ length xs in
    cond_both (same_state n.state m.state) _ _ Longer
    (λ _. cond_both (rank_less m.cost m.steps n.cost n.steps) _ _ Longer (λ _. omega arith) (λ _. omega arith))
    (λ _. let rest = length-reached ns m in omega arith)
