-- What every owner keeps stays where it takes a state, or an outbox changes.
use Rattle.std.proofs.Common.{◌≡◌, ℕ, zero, suc, ◌+◌, ◌<◌, ◌≤◌, Bool, true, false, ◌==◌, List, [], ◌∷◌, ◌++◌, ◌&&◌, map, length, Option, Some, None, All, refl, sym, ap, ◌∙◌, subst, ⊎_elim, arith, true≢false, cond, length-set}
use Rattle.std.specs.Prelude.{slice_set, replicate, fold, IfSome, is_some}
use Rattle.std.proofs.lemmas.List.{length-replicate}
use Rattle.std.specs.List.{list_all}
use Rattle.std.specs.Option.{option_to_list}
use Rattle.std.proofs.lemmas.Bool.{eq-eqb, ne_eqb, cases_lt}
use Rattle.std.proofs.lemmas.List.Elements.{All-nil, All-cons, All-append, All-head, All-tail}
use Rattle.cost.specs.Distances.{Distance, Finite, Infinite, is_at_most, lesser}
use Rattle.fdr.specs.Tasks.{ranges, IsState, is_goal_state}
use Rattle.owner_theory.specs.Owners as machine
use Rattle.owner_theory.specs.Owners.{At, list_at, SearchSpace, Node, Owner, f_value, node_of, improve, marked, took, treat, posted, first_node, start_owner}
use Rattle.owner_theory.specs.Worlds.{no_open, idle, is_empty}
use Rattle.owner_theory.proofs.Lists.{at_get, set_cases}
use Rattle.owner_theory.proofs.Nodes.{improve_at, mark_at}
use Rattle.openlist.specs.declared.entry.Rank.{Rank}
use Rattle.openlist.specs.declared.entry.OpenEntry.{OpenEntry}
use Rattle.closed.specs.declared.message.Parent.{Parent}
use Rattle.closed.specs.declared.message.Message.{Message}
use Rattle.closed.specs.declared.table.Outcome.TheVariants.{Kept}
use Rattle.closed.specs.Tables.{padded, reached, outcome_of, fresh, message_of, arrival}
use Rattle.owner_space.specs.declared.ties.Ties.{Ties}
use Rattle.owner_space.specs.Spaces.{SpaceOf, searched}
use Rattle.owner.specs.Owned.{OwnerOf, space_of, under, IsMessageTo, IsKept}
use Rattle.owner_reached.specs.Queues.{ReachedOf, h_of, IsLeast}
use Rattle.owner.specs.Held.{IsOwner, message_at}
use Rattle.owner.specs.Outboxes.{shown, withdrawn}
use Rattle.closed.proofs.Reached.{outcome_of-Kept}
use Rattle.owner_reached.proofs.Outcomes.{reached_improves, kept_same}
use Rattle.owner_outboxes.proofs.Withdrawing.{withdrawn_length, withdrawn_all}
use Rattle.owner.proofs.Choosing.{no_open_some, both_false}

-- ---- outboxes are shown by the task of their owner's space

abbrev pub boxes_in : {S F : Type 0} → (List ℕ → F → List ℕ) → List (List (Message F)) → SpaceOf S → List (List machine.Message)
boxes_in values boxes space = shown (values (ranges space.task)) boxes

-- ---- a state of its own is taken

module _ {S : Type 0} (owner : S → List ℕ → ℕ → ℕ) (o : OwnerOf S) where
  -- the owner with other nodes and another best cost
  abbrev pub with_nodes : SpaceOf S → List Node → List Bool → List (List machine.Message) → Distance → OwnerOf S
  with_nodes space nodes ever boxes best = record {
    space = space;
    worker = o.worker;
    nodes = nodes;
    ever = ever;
    outboxes = boxes;
    best = best;
    expansions = o.expansions;
  }

  pub taken_kept : (space : SpaceOf S) (nodes : List Node) (ever : List Bool) (boxes : List (List machine.Message)) (best : Distance) (state : List ℕ) (rank : Rank)
      (parent : Parent) → IsOwner owner o → IsMessageTo (space_of owner o) o.worker (message_at state rank parent) → space ≡ o.space
      → nodes ≡ reached o.nodes (fresh state rank (Some parent)) → boxes ≡ o.outboxes → IsOwner owner (with_nodes space nodes ever boxes best)
  taken_kept space nodes ever boxes best state rank parent h m same is boxes_same =
      subst (λ (s : SpaceOf S). IsOwner owner (with_nodes s nodes ever boxes best)) (sym same)
      (subst (λ (bs : List (List machine.Message)). IsOwner owner (with_nodes o.space nodes ever bs best)) (sym boxes_same)
      (subst (λ (ns : List Node). IsOwner owner (with_nodes o.space ns ever o.outboxes best))
      (sym (is ∙ reached_improves o.nodes (message_at state rank parent)))
      (record {
        owners = h.owners;
        nodes = λ i n at. ⊎_elim (λ (p : At o.nodes i n). h.nodes i n p)
            (λ (p : node_of (message_at state rank parent) ≡ n). subst (λ (x : Node). IsKept (space_of owner o) o.worker x) p (record {
              state = m.state;
              owner = m.owner;
              cost = m.cost;
              steps = m.steps;
            }))
            (improve_at o.nodes (message_at state rank parent) i n at);
        messages = h.messages;
        counted = h.counted;
      })))

  pub taken_is : (space : SpaceOf S) (nodes : List Node) (ever : List Bool) (boxes : List (List machine.Message)) (best bound : Distance) (state : List ℕ) (rank : Rank)
      (parent : Parent) → nodes ≡ reached o.nodes (fresh state rank (Some parent)) → boxes ≡ o.outboxes
      → best ≡ cond (is_goal_state o.space.task state) (lesser o.best (Finite rank.cost)) o.best
      → under (with_nodes space nodes ever boxes best) bound ≡ took (space_of owner o) (under o bound) (message_at state rank parent)
  taken_is space nodes ever boxes best bound state rank parent is boxes_same b =
      let ns = is ∙ reached_improves o.nodes (message_at state rank parent) in
      λ j. record { nodes = ns j; outboxes = boxes_same j; bound = bound; best = b j }

  -- ---- an outbox changes

  abbrev pub with_boxes : List (List machine.Message) → OwnerOf S
  with_boxes boxes = record {
    space = o.space;
    worker = o.worker;
    nodes = o.nodes;
    ever = o.ever;
    outboxes = boxes;
    best = o.best;
    expansions = o.expansions;
  }

  pub boxes_kept : (boxes : List (List machine.Message)) → length boxes ≡ length o.outboxes → IsOwner owner o
      → ((to : ℕ) → to < length o.outboxes → All (IsMessageTo (space_of owner o) to) (list_at boxes to)) → IsOwner owner (with_boxes boxes)
  boxes_kept boxes e h each = record {
    owners = subst (λ n. o.worker < n) (sym e) h.owners;
    nodes = λ i n at. subst (λ k. IsKept (searched owner o.space k) o.worker n) (sym e) (h.nodes i n at);
    messages = λ to lt. subst (λ k. All (IsMessageTo (searched owner o.space k) to) (list_at boxes to)) (sym e)
        (each to (subst (λ n. to < n) e lt));
    counted = h.counted;
  }

  pub posted_kept : (boxes : List (List machine.Message)) (to : ℕ) (m : machine.Message) → IsOwner owner o
      → IsMessageTo (space_of owner o) to m → boxes ≡ slice_set o.outboxes to (list_at o.outboxes to ++ m ∷ [])
      → IsOwner owner (with_boxes boxes)
  posted_kept boxes to m h fits is =
      boxes_kept boxes (ap length is ∙ length-set o.outboxes to (list_at o.outboxes to ++ m ∷ [])) h
      (λ v lt. subst (λ (bs : List (List machine.Message)). All (IsMessageTo (space_of owner o) v) (list_at bs v)) (sym is)
      (set_cases o.outboxes to (list_at o.outboxes to ++ m ∷ []) v (All (IsMessageTo (space_of owner o) v))
      (λ same. All-append (IsMessageTo (space_of owner o) v) (list_at o.outboxes to) (m ∷ [])
      (subst (λ k. All (IsMessageTo (space_of owner o) v) (list_at o.outboxes k)) same (h.messages v lt))
      (one v (subst (λ k. IsMessageTo (space_of owner o) k m) (sym same) fits)))
      (h.messages v lt)))
    where
      one : (v : ℕ) → IsMessageTo (space_of owner o) v m → All (IsMessageTo (space_of owner o) v) (m ∷ [])
      one v f zero d lt = f
      one v f (suc k) d lt = absurd (omega arith)

  rest_all : {M : Type 0} (f : M → machine.Message) (P : machine.Message → Type 0) (r : Option M) (xs : List machine.Message)
      → All P (map f (option_to_list r) ++ xs) → All P xs
  rest_all f P None xs h = h
  rest_all f P (Some x) xs h = All-tail P (f x) xs h

  first_all : {M : Type 0} (f : M → machine.Message) (P : machine.Message → Type 0) (r : Option M) (xs : List machine.Message)
      → All P (map f (option_to_list r) ++ xs) → IfSome r (λ x. P (f x))
  first_all f P None xs h = tt
  first_all f P (Some x) xs h = All-head P (f x) xs h

  pub popped_kept : {M : Type 0} (f : M → machine.Message) (boxes : List (List machine.Message)) (to : ℕ) (r : Option M)
      → IsOwner owner o → to < length o.outboxes → list_at o.outboxes to ≡ map f (option_to_list r) ++ list_at boxes to
      → boxes ≡ slice_set o.outboxes to (list_at boxes to) → IsOwner owner (with_boxes boxes)
  popped_kept f boxes to r h lt first is =
      boxes_kept boxes (ap length is ∙ length-set o.outboxes to (list_at boxes to)) h
      (λ v lt'. subst (λ (bs : List (List machine.Message)). All (IsMessageTo (space_of owner o) v) (list_at bs v)) (sym is)
      (set_cases o.outboxes to (list_at boxes to) v (All (IsMessageTo (space_of owner o) v))
      (λ same. subst (λ k. All (IsMessageTo (space_of owner o) k) (list_at boxes to)) (sym same)
      (rest_all f (IsMessageTo (space_of owner o) to) r (list_at boxes to)
      (subst (λ (ms : List machine.Message). All (IsMessageTo (space_of owner o) to) ms) first (h.messages to lt))))
      (h.messages v lt')))

  pub popped_fits : {M : Type 0} (f : M → machine.Message) (boxes : List (List machine.Message)) (to : ℕ) (r : Option M)
      → IsOwner owner o → to < length o.outboxes → list_at o.outboxes to ≡ map f (option_to_list r) ++ list_at boxes to
      → IfSome r (λ m. IsMessageTo (space_of owner o) to (f m))
  popped_fits f boxes to r h lt first =
      first_all f (IsMessageTo (space_of owner o) to) r (list_at boxes to)
      (subst (λ (ms : List machine.Message). All (IsMessageTo (space_of owner o) to) ms) first (h.messages to lt))

-- ---- a successor is treated

-- a state that is known at this rank or a lesser one, and is no goal state, is taken by doing nothing
pub kept_takes : (space : SearchSpace) (o : Owner) (m : machine.Message) → outcome_of o.nodes (node_of m) ≡ Kept
    → is_goal_state space.task m.state ≡ false → o ≡ took space o m
kept_takes space o m kept goal =
    λ j. record {
      nodes = sym nodes j;
      outboxes = o.outboxes;
      bound = o.bound;
      best = cond (sym goal j) (lesser o.best (Finite m.cost)) o.best;
    }
  where
    nodes : improve o.nodes m ≡ o.nodes
    nodes = sym (reached_improves o.nodes m) ∙ kept_same o.nodes (node_of m) kept

-- and it is an owner's own where all the nodes are
pub kept_is_own : (space : SearchSpace) (me : ℕ) (nodes : List Node) (m : Node) → ((i : ℕ) (n : Node) → At nodes i n → IsKept space me n)
    → outcome_of nodes m ≡ Kept → space.owner_of m.state ≡ me
kept_is_own space me nodes m each kept =
    let told = outcome_of-Kept nodes m kept in
    subst (λ (s : List ℕ). space.owner_of s ≡ me) told.state (each told.place told.node (at_get nodes told.place told.node told.there)).owner

-- a state of its own that is known at this rank or a lesser one, and is no goal state, is treated by doing nothing
pub kept_treats : (space : SearchSpace) (me : ℕ) (o : Owner) (m : machine.Message) → outcome_of o.nodes (node_of m) ≡ Kept
    → is_goal_state space.task m.state ≡ false → space.owner_of m.state ≡ me → o ≡ treat space me o m
kept_treats space me o m kept goal mine = sym (go (is_at_most o.bound (f_value space m.state m.cost)))
  where
    own : (space.owner_of m.state == me) ≡ true
    own = eq-eqb (space.owner_of m.state) me mine

    go : (b : Bool) → cond b o (cond (space.owner_of m.state == me) (took space o m) (posted space o m)) ≡ o
    go true = refl
    go false = (λ j. cond (own j) (took space o m) (posted space o m)) ∙ sym (kept_takes space o m kept goal)

pub took_treats : (space : SearchSpace) (me : ℕ) (o : Owner) (m : machine.Message) → is_at_most o.bound (f_value space m.state m.cost) ≡ false
    → space.owner_of m.state ≡ me → took space o m ≡ treat space me o m
took_treats space me o m below mine =
    sym ((λ j. cond (below j) o (cond (own j) (took space o m) (posted space o m))))
  where
    own : (space.owner_of m.state == me) ≡ true
    own = eq-eqb (space.owner_of m.state) me mine

-- a state of another owner is put into that owner's outbox
pub posted_treats : (space : SearchSpace) (me to : ℕ) (o : Owner) (boxes : List (List machine.Message)) (m : machine.Message)
    → is_at_most o.bound (f_value space m.state m.cost) ≡ false → space.owner_of m.state ≡ to → (to == me) ≡ false
    → boxes ≡ slice_set o.outboxes to (list_at o.outboxes to ++ m ∷ []) → record o { outboxes = boxes } ≡ treat space me o m
posted_treats space me to o boxes m below mine other is =
    (λ j. record o { outboxes = (is ∙ ap (λ v. slice_set o.outboxes v (list_at o.outboxes v ++ m ∷ [])) (sym mine)) j })
    ∙ sym (λ j. cond (below j) o (cond (theirs j) (took space o m) (posted space o m)))
  where
    theirs : (space.owner_of m.state == me) ≡ false
    theirs = ap (λ v. v == me) mine ∙ other

-- ---- the next node is expanded

-- the owner after its next node is marked and these messages are taken
abbrev pub IsExpandedAs : {S : Type 0} → OwnerOf S → List machine.Message → Distance → OwnerOf S → Type 0
IsExpandedAs old own best new = (e : OpenEntry) (n : Node) → IsLeast old.space.ties (h_of old.space) old.nodes old.ever e → At old.nodes e.index n
    → new ≡ record old {
      nodes = fold improve (slice_set old.nodes e.index (marked n)) own;
      ever = padded (slice_set old.ever e.index true) (length new.nodes);
      best = best;
      expansions = cond (is_some old.space.limit) (suc old.expansions) old.expansions;
    }

-- taking messages of one's own keeps all nodes one's own
all_kept : (space : SearchSpace) (me : ℕ) (ns : List Node) (ms : List machine.Message) → ((i : ℕ) (n : Node) → At ns i n → IsKept space me n)
    → All (IsMessageTo space me) ms → (i : ℕ) (n : Node) → At (fold improve ns ms) i n → IsKept space me n
all_kept space me ns [] h fits = h
all_kept space me ns (m ∷ ms) h fits =
    let f = All-head (IsMessageTo space me) m ms fits in
    all_kept space me (improve ns m) ms
    (λ i n at. ⊎_elim (λ (p : At ns i n). h i n p)
    (λ (p : node_of m ≡ n). subst (λ (x : Node). IsKept space me x) p (record { state = f.state; owner = f.owner; cost = f.cost; steps = f.steps }))
    (improve_at ns m i n at))
    (All-tail (IsMessageTo space me) m ms fits)

-- the table's word and the family's are one, for several messages
pub all_reached : {F : Type 0} (values : F → List ℕ) (ns : List Node) (ms : List (Message F))
    → fold reached ns (map (arrival values) ms) ≡ fold improve ns (map (message_of values) ms)
all_reached values ns [] = refl
all_reached values ns (m ∷ ms) =
    ap (λ (l : List Node). fold reached l (map (arrival values) ms)) (reached_improves ns (message_of values m))
    ∙ all_reached values (improve ns (message_of values m)) ms

pub all_mapped : {X Y : Type 0} (f : X → Y) (P : Y → Type 0) (xs : List X) → All (λ x. P (f x)) xs → All P (map f xs)
all_mapped f P [] h = All-nil P
all_mapped f P (x ∷ xs) h =
    All-cons P (f x) (map f xs) (All-head (λ y. P (f y)) x xs h) (all_mapped f P xs (All-tail (λ y. P (f y)) x xs h))

module _ {S : Type 0} (owner : S → List ℕ → ℕ → ℕ) (o : OwnerOf S) where
  abbrev pub with_expanded : SpaceOf S → List Node → List Bool → List (List machine.Message) → Distance → ℕ → OwnerOf S
  with_expanded space nodes ever boxes best expansions = record {
    space = space;
    worker = o.worker;
    nodes = nodes;
    ever = ever;
    outboxes = boxes;
    best = best;
    expansions = expansions;
  }

  pub expanded_kept : (space : SpaceOf S) (nodes : List Node) (ever : List Bool) (boxes : List (List machine.Message)) (best : Distance) (expansions : ℕ) (i : ℕ) (n : Node)
      (own : List machine.Message) → IsOwner owner o → space ≡ o.space → boxes ≡ o.outboxes → At o.nodes i n
      → nodes ≡ fold improve (slice_set o.nodes i (marked n)) own → All (IsMessageTo (space_of owner o) o.worker) own
      → IfSome o.space.limit (λ limit. expansions ≤ limit) → IsOwner owner (with_expanded space nodes ever boxes best expansions)
  expanded_kept space nodes ever boxes best expansions i n own h same boxes_same there is fits few =
      subst (λ (s : SpaceOf S). IsOwner owner (with_expanded s nodes ever boxes best expansions)) (sym same)
      (subst (λ (bs : List (List machine.Message)). IsOwner owner (with_expanded o.space nodes ever bs best expansions)) (sym boxes_same)
      (subst (λ (ns : List Node). IsOwner owner (with_expanded o.space ns ever o.outboxes best expansions)) (sym is)
      (record {
        owners = h.owners;
        nodes = all_kept (space_of owner o) o.worker (slice_set o.nodes i (marked n)) own marked_kept fits;
        messages = h.messages;
        counted = few;
      })))
    where
      marked_kept : (j : ℕ) (x : Node) → At (slice_set o.nodes i (marked n)) j x → IsKept (space_of owner o) o.worker x
      marked_kept j x at = ⊎_elim
          (λ (p : (j ≡ i) × (marked n ≡ x)). let k = h.nodes i n there in
          subst (λ (y : Node). IsKept (space_of owner o) o.worker y) p.1 (record {
            state = k.state;
            owner = k.owner;
            cost = k.cost;
            steps = k.steps;
          }))
          (λ (p : At o.nodes j x). h.nodes j x p)
          (mark_at o.nodes i (marked n) j x at)

  pub expanded_as : (space : SpaceOf S) (nodes : List Node) (ever : List Bool) (boxes : List (List machine.Message)) (best : Distance) (expansions : ℕ) (own : List machine.Message)
      → space ≡ o.space → boxes ≡ o.outboxes
      → ((e : OpenEntry) (n : Node) → IsLeast o.space.ties (h_of o.space) o.nodes o.ever e → At o.nodes e.index n
      → nodes ≡ fold improve (slice_set o.nodes e.index (marked n)) own)
      → ((e : OpenEntry) → IsLeast o.space.ties (h_of o.space) o.nodes o.ever e → ever ≡ padded (slice_set o.ever e.index true) (length nodes))
      → expansions ≡ cond (is_some o.space.limit) (suc o.expansions) o.expansions
      → IsExpandedAs o own best (with_expanded space nodes ever boxes best expansions)
  expanded_as space nodes ever boxes best expansions own same boxes_same is bits count e n least at =
      let ns = is e n least at in
      let bs = bits e least in
      λ j. record {
        space = same j;
        worker = o.worker;
        nodes = ns j;
        ever = bs j;
        outboxes = boxes_same j;
        best = best;
        expansions = count j;
      }

  -- messages are withdrawn
  pub withdrawn_kept : (vs : List ℕ) (boxes : List (List machine.Message)) → IsOwner owner o → boxes ≡ withdrawn vs o.outboxes
      → IsOwner owner (with_boxes owner o boxes)
  withdrawn_kept vs boxes h is =
      boxes_kept owner o boxes (ap length is ∙ withdrawn_length vs o.outboxes) h
      (λ to lt. subst (λ (bs : List (List machine.Message)). All (IsMessageTo (space_of owner o) to) (list_at bs to)) (sym is)
      (withdrawn_all (λ t. IsMessageTo (space_of owner o) t) vs o.outboxes to (h.messages to lt)))

pub counted_more : (limit : Option ℕ) (k : ℕ) → (limit ≡ Some k → ⊥) → IfSome limit (λ l. k ≤ l) → IfSome limit (λ l. k + 1 ≤ l)
counted_more None k other h = tt
counted_more (Some l) k other h =
    ⊎_elim (λ (p : k < l). let q : k + 1 ≤ l = omega arith in q)
    (λ (p : l ≤ k). let same : l ≡ k = omega arith in absurd (other (ap Some same))) (cases_lt k l)

-- ---- what all owners keep, at each place

pub all_from_at : {X : Type 0} (P : X → Type 0) (xs : List X) → ((i : ℕ) (x : X) → At xs i x → P x) → All P xs
all_from_at P [] h = All-nil P
all_from_at P (x ∷ xs) h = All-cons P x xs (h 0 x refl) (all_from_at P xs (λ i y at. h (suc i) y at))

pub idle_not : (ties : Ties) (ever : List Bool) (r : Option OpenEntry) (space : SearchSpace) (o : Owner) → is_some r ≡ true
    → IfSome r (λ e. IsLeast ties space.heuristic o.nodes ever e × (is_at_most o.bound (Finite e.f) ≡ false)) → false ≡ idle space o
idle_not ties ever None space o some h = absurd (true≢false (sym some))
idle_not ties ever (Some e) space o some h = sym (both_false (no_open space o) (list_all is_empty o.outboxes) (no_open_some space ever o e h.0 h.1))

pub none_from : {X : Type 0} (r : Option X) → is_some r ≡ false → r ≡ None
none_from None h = refl
none_from (Some x) h = absurd (true≢false h)

pub idle_from : (space : SearchSpace) (o : Owner) (b : Bool) → no_open space o ≡ true → b ≡ list_all is_empty o.outboxes → b ≡ idle space o
idle_from space o b none is = is ∙ sym (ap (λ t. t && list_all is_empty o.outboxes) none)

-- ---- the beginning

list_at_none : {X : Type 0} (n to : ℕ) → list_at (replicate {A = List X} n []) to ≡ []
list_at_none zero to = refl
list_at_none (suc n) zero = refl
list_at_none (suc n) (suc to) = list_at_none n to

none_counted : (limit : Option ℕ) → IfSome limit (λ l. 0 ≤ l)
none_counted None = tt
none_counted (Some l) = omega arith

-- an owner at the beginning keeps what every owner does, where its nodes are its own
pub start_kept : {S : Type 0} (owner : S → List ℕ → ℕ → ℕ) (space : SpaceOf S) (r : ReachedOf S) (worker n : ℕ) (boxes : List (List machine.Message)) (best : Distance)
    → worker < n → boxes ≡ replicate n [] → r.space ≡ space → ((i : ℕ) (m : Node) → At r.nodes i m → IsKept (searched owner space n) worker m)
    → IsOwner owner (record { space = r.space; worker = worker; nodes = r.nodes; ever = r.ever; outboxes = boxes; best = best; expansions = 0 })
start_kept {S = S} owner space r worker n boxes best lt empty same kept =
    subst (λ (bs : List (List machine.Message)). IsOwner owner (record { space = r.space; worker = worker; nodes = r.nodes; ever = r.ever; outboxes = bs; best = best; expansions = 0 })) (sym empty)
    (subst (λ (s : SpaceOf S). IsOwner owner (record { space = s; worker = worker; nodes = r.nodes; ever = r.ever; outboxes = replicate n []; best = best; expansions = 0 })) (sym same)
    (record {
      owners = let long = length-replicate {A = List machine.Message} n [] in omega (arith, lt, long);
      nodes = λ i m at. subst (λ k. IsKept (searched owner space k) worker m) (sym (length-replicate {A = List machine.Message} n [])) (kept i m at);
      messages = λ to below. subst (All (IsMessageTo (searched owner space (length (replicate {A = List machine.Message} n []))) to)) (sym (list_at_none n to))
          (All-nil (IsMessageTo (searched owner space (length (replicate {A = List machine.Message} n []))) to));
      counted = none_counted space.limit;
    }))

-- the first state of an owner is its own
pub first_kept : {S : Type 0} (owner : S → List ℕ → ℕ → ℕ) (space : SpaceOf S) (worker n : ℕ) (state : List ℕ) (old r : ReachedOf S) → old ≡ record { space = space; nodes = []; ever = [] }
    → r.nodes ≡ reached old.nodes (fresh state (record { cost = 0; steps = 0 }) None) → IsState (ranges space.task) state → owner space.spread state n ≡ worker
    → (i : ℕ) (m : Node) → At r.nodes i m → IsKept (searched owner space n) worker m
first_kept {S = S} owner space worker n state old r is nodes known own i m at =
    go i (subst (λ (ns : List Node). At ns i m) (nodes ∙ ap (λ (o : ReachedOf S). reached o.nodes (fresh state (record { cost = 0; steps = 0 }) None)) is) at)
  where
    go : (i : ℕ) → At (fresh state (record { cost = 0; steps = 0 }) None ∷ []) i m → IsKept (searched owner space n) worker m
    go zero same = subst (IsKept (searched owner space n) worker) same (record { state = known; owner = own; cost = omega arith; steps = omega arith })
    go (suc i) same = absurd same

-- an owner without states has none that is not its own
pub none_kept : {S : Type 0} (owner : S → List ℕ → ℕ → ℕ) (space : SpaceOf S) (worker n : ℕ) (r : ReachedOf S) → r ≡ record { space = space; nodes = []; ever = [] }
    → (i : ℕ) (m : Node) → At r.nodes i m → IsKept (searched owner space n) worker m
none_kept {S = S} owner space worker n r is i m at = absurd (subst (λ (o : ReachedOf S). At o.nodes i m) is at)

-- the owner of the initial state starts with it, and others without a state
pub started_own : {S : Type 0} (owner : S → List ℕ → ℕ → ℕ) (space : SpaceOf S) (worker n : ℕ) (state : List ℕ) (old : ReachedOf S) (nodes : List Node)
    (boxes : List (List machine.Message)) (best : Distance) → old ≡ record { space = space; nodes = []; ever = [] }
    → nodes ≡ reached old.nodes (fresh state (record { cost = 0; steps = 0 }) None) → state ≡ space.task.initial → boxes ≡ replicate n []
    → best ≡ cond (is_goal_state space.task space.task.initial) (Finite 0) Infinite → owner space.spread space.task.initial n ≡ worker
    → record { nodes = nodes; outboxes = boxes; bound = Infinite; best = best } ≡ start_owner (searched owner space n) (owner space.spread space.task.initial n == worker)
started_own {S = S} owner space worker n state old nodes boxes best was is at empty found own =
    (λ j. record { nodes = all j; outboxes = empty j; bound = Infinite; best = found j }) ∙ ap (start_owner (searched owner space n)) (sym (eq-eqb (owner space.spread space.task.initial n) worker own))
  where
    all : nodes ≡ first_node (searched owner space n) ∷ []
    all = is ∙ (ap (λ (o : ReachedOf S). reached o.nodes (fresh state (record { cost = 0; steps = 0 }) None)) was
        ∙ ap (λ st. fresh st (record { cost = 0; steps = 0 }) None ∷ []) at)

pub started_none : {S : Type 0} (owner : S → List ℕ → ℕ → ℕ) (space : SpaceOf S) (worker n : ℕ) (old : ReachedOf S) (boxes : List (List machine.Message))
    (best : Distance) → old ≡ record { space = space; nodes = []; ever = [] } → boxes ≡ replicate n [] → best ≡ Infinite
    → (owner space.spread space.task.initial n ≡ worker → ⊥)
    → record { nodes = old.nodes; outboxes = boxes; bound = Infinite; best = best } ≡ start_owner (searched owner space n) (owner space.spread space.task.initial n == worker)
started_none {S = S} owner space worker n old boxes best was empty found other =
    (λ j. record { nodes = (was j).nodes; outboxes = empty j; bound = Infinite; best = found j }) ∙ ap (start_owner (searched owner space n)) (sym (ne_eqb (owner space.spread space.task.initial n) worker other))
