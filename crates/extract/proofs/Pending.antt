-- What is pending is above a bound where its least f-value is.
use Rattle.std.proofs.Common.{◌≡◌, ℕ, ◌<◌, Bool, true, false, if◌then◌else◌, List, [], ◌∷◌, length, map, get_or, All, refl, sym, ap, subst, ◌∙◌, arith, is_le}
use Rattle.std.proofs.lemmas.Grind.{common_steps}
use Rattle.std.specs.Global.{Global}
use Rattle.std.specs.declared.collections.VecDeque.{VecDeque}
use Rattle.std.proofs.lemmas.List.{map-append}
use Rattle.std.proofs.lemmas.Bool.{cond_both}
use Rattle.std.proofs.lemmas.List.Elements.{All-nil, All-cons, All-head, All-tail, All-weaker}
use Rattle.cost.specs.Distances.{Distance, Finite, Infinite, ◌≤ᵈ◌, is_at_most, distance_cmp, lesser, least}
use Rattle.cost.proofs.DistanceLaws.{at_most_through, at_most_infinite, at_most_lesser, lesser_at_most_left, lesser_at_most_right, least-append, at_most_not_below, is_at_most-true, is_at_most-false}
use Rattle.fdr.specs.Tasks.{ranges}
use Rattle.closed.specs.declared.message.Message as memory
use Rattle.closed.specs.Tables.{message_of}
use Rattle.owner_theory.specs.Owners.{At, list_at, SearchSpace, Node, Packet, f_value}
use Rattle.owner.specs.Spaces.{SpaceOf, searched}
use Rattle.owner.specs.Owned.{OwnerOf, space_of, IsMessageTo, least_open}
use Rattle.extract.specs.declared.packet.Packet as memory_packet
use Rattle.extract.specs.Views.{packet_of, packets_in, all_packets}
use Rattle.extract.specs.Bounds.{least_pending, least_best}
use Rattle.extract.specs.Ends.{EndOf, IsForm, ArePendingAbove, IsSettledAt, IsMessageAbove, space_at}
use Rattle.extract.specs.Pending.{IsSmallMessage, f_at, least_message, least_packet, least_held}
use Rattle.extract.proofs.Places.{each_at, all_at, all_under, all_flat, at_read}
use Rattle.extract.proofs.Leasts.{at_most_each, at_most_least_of}

-- ---- as the messages lie in memory

-- the messages of an outbox have these values by the space that is read from the owner too
pub read_there : {S F : Type 0} (values : List ℕ → F → List ℕ) (o : OwnerOf S) (to : ℕ) (space : SpaceOf S) (messages : List (memory.Message F))
    → space ≡ o.space → map (message_of (values (ranges o.space.task))) messages ≡ list_at o.outboxes to
    → map (message_of (values (ranges space.task))) messages ≡ list_at o.outboxes to
read_there {S = S} values o to space messages same are =
    ap (λ (s : SpaceOf S). map (message_of (values (ranges s.task))) messages) same ∙ are

pub small_messages : {S F : Type 0} (owner : S → List ℕ → ℕ → ℕ) (values : F → List ℕ) (o : OwnerOf S) (to : ℕ) (space : SpaceOf S)
    (messages : List (memory.Message F)) → space ≡ o.space → map (message_of values) messages ≡ list_at o.outboxes to
    → All (IsMessageTo (space_of owner o) to) (list_at o.outboxes to) → All (λ m. IsSmallMessage space.task (message_of values m)) messages
small_messages owner values o to space messages same are small =
    all_under (IsSmallMessage space.task) (message_of values) messages
    (subst (All (IsSmallMessage space.task)) (sym are)
    (All-weaker (IsMessageTo (space_of owner o) to) (IsSmallMessage space.task)
    (λ m (h : IsMessageTo (space_of owner o) to m). subst (λ (s : SpaceOf _). IsSmallMessage s.task m) (sym same) (h.state, h.cost))
    (list_at o.outboxes to) small))

map_twice : {X Y Z : Type 0} (f : Y → Z) (g : X → Y) (xs : List X) → map (λ x. f (g x)) xs ≡ map f (map g xs)
map_twice f g [] = refl
map_twice f g (x ∷ xs) = ap (λ (ys : List _). f (g x) ∷ ys) (map_twice f g xs)

pub least_in_memory : {S F : Type 0} (values : F → List ℕ) (o : OwnerOf S) (to : ℕ) (space : SpaceOf S) (messages : List (memory.Message F))
    → space ≡ o.space → map (message_of values) messages ≡ list_at o.outboxes to
    → least (map (λ m. f_at space (message_of values m)) messages) ≡ least_message o.space (list_at o.outboxes to)
least_in_memory values o to space messages same are =
    ap least (map_twice (f_at space) (message_of values) messages) ∙ ap (least_message space) are
    ∙ ap (λ (s : SpaceOf _). least_message s (list_at o.outboxes to)) same

-- ---- the open nodes of an owner

module _ (space : SearchSpace) (b : Distance) where
  abbrev IsOpenAbove : Node → Type 0
  IsOpenAbove n = n.expanded ≡ false → b ≤ᵈ f_value space n.state n.cost

  open_above : (ns : List Node) → b ≤ᵈ least_open space ns → All IsOpenAbove ns
  open_above [] h = All-nil IsOpenAbove
  open_above (n ∷ ns) h =
      let here : Distance = if n.expanded then Infinite else f_value space n.state n.cost in
      All-cons IsOpenAbove n ns
      (λ closed. subst (λ (t : Bool). b ≤ᵈ (if t then Infinite else f_value space n.state n.cost)) closed
      (at_most_through b (lesser here (least_open space ns)) here h (lesser_at_most_left here (least_open space ns))))
      (open_above ns
      (at_most_through b (lesser here (least_open space ns)) (least_open space ns) h (lesser_at_most_right here (least_open space ns))))

  open_least : (ns : List Node) → All IsOpenAbove ns → b ≤ᵈ least_open space ns
  open_least [] h = at_most_infinite b
  open_least (n ∷ ns) h =
      at_most_lesser b (if n.expanded then Infinite else f_value space n.state n.cost) (least_open space ns)
      (cond_both n.expanded Infinite (f_value space n.state n.cost) (λ d. b ≤ᵈ d) (λ _. at_most_infinite b)
      (All-head IsOpenAbove n ns h))
      (open_least ns (All-tail IsOpenAbove n ns h))

-- ---- all owners

module _ {S : Type 0} (owner : S → List ℕ → ℕ → ℕ) (e : EndOf S) (form : IsForm e) where
  -- the owners search one space
  pub one_space : (v : ℕ) (o : OwnerOf S) → At e.owners v o → space_of owner o ≡ space_at owner e
  one_space v o at =
      let (same, worker, count) = form.each v o at in
      ap (λ (s : SpaceOf S). searched owner s (length o.outboxes)) same ∙ ap (λ n. searched owner e.space n) count

  module _ (b : Distance) where
    AllAbove : SearchSpace → OwnerOf S → Type 0
    AllAbove space o = All (IsOpenAbove space b) o.nodes × All (All (IsMessageAbove space b)) o.outboxes

    held_above : (o : OwnerOf S) → b ≤ᵈ least_held owner o → AllAbove (space_of owner o) o
    unfolding AllAbove
    held_above o h =
        let posted : Distance = least (map (least_message o.space) o.outboxes) in
        let opened : Distance = least_open (space_of owner o) o.nodes in (
          open_above (space_of owner o) b o.nodes (at_most_through b (lesser opened posted) opened h (lesser_at_most_left opened posted)),
          All-weaker (λ q. b ≤ᵈ least_message o.space q) (All (IsMessageAbove (space_of owner o) b)) (at_most_each (f_at o.space) b)
              o.outboxes
              (at_most_each (least_message o.space) b o.outboxes
              (at_most_through b (lesser opened posted) posted h (lesser_at_most_right opened posted))),
        )

    held_least : (o : OwnerOf S) → AllAbove (space_of owner o) o → b ≤ᵈ least_held owner o
    unfolding AllAbove
    held_least o (nodes, outboxes) =
        at_most_lesser b (least_open (space_of owner o) o.nodes) (least (map (least_message o.space) o.outboxes))
        (open_least (space_of owner o) b o.nodes nodes)
        (at_most_least_of (least_message o.space) b o.outboxes
        (All-weaker (All (IsMessageAbove (space_of owner o) b)) (λ q. b ≤ᵈ least_message o.space q) (at_most_least_of (f_at o.space) b)
        o.outboxes outboxes))

    -- where the bound is at most the least, all that is pending is above it
    pub pending_below : b ≤ᵈ least_pending owner e → ArePendingAbove (space_at owner e) e.owners e.left b
    unfolding AllAbove
    pending_below h =
        let held : Distance = least (map (least_held owner) e.owners) in
        let underway : Distance = least_packet e.space e.left in
        let owners : All (λ o. b ≤ᵈ least_held owner o) e.owners =
        at_most_each (least_held owner) b e.owners (at_most_through b (lesser held underway) held h (lesser_at_most_left held underway)) in
        let each : (v : ℕ) (o : OwnerOf S) → At e.owners v o → AllAbove (space_at owner e) o = λ v o at.
        subst (λ (s : SearchSpace). AllAbove s o) (one_space v o at)
        (held_above o (each_at (λ o. b ≤ᵈ least_held owner o) e.owners v o owners at)) in
        record {
          nodes = all_at (λ o. All (IsOpenAbove (space_at owner e) b) o.nodes) e.owners (λ v o at. (each v o at).0);
          outboxes = all_at (λ o. All (All (IsMessageAbove (space_at owner e) b)) o.outboxes) e.owners (λ v o at. (each v o at).1);
          left = at_most_each (λ (p : Packet). f_at e.space p.message) b e.left
              (at_most_through b (lesser held underway) underway h (lesser_at_most_right held underway));
        }

    -- and the other way round
    pub below_pending : ArePendingAbove (space_at owner e) e.owners e.left b → b ≤ᵈ least_pending owner e
    unfolding AllAbove
    below_pending pending =
        at_most_lesser b (least (map (least_held owner) e.owners)) (least_packet e.space e.left)
        (at_most_least_of (least_held owner) b e.owners
        (all_at (λ o. b ≤ᵈ least_held owner o) e.owners (λ v o at. held_least o
        (subst (λ (s : SearchSpace). AllAbove s o) (sym (one_space v o at)) (
          each_at (λ o. All (IsOpenAbove (space_at owner e) b) o.nodes) e.owners v o pending.nodes at,
          each_at (λ o. All (All (IsMessageAbove (space_at owner e) b)) o.outboxes) e.owners v o pending.outboxes at,
        )))))
        (at_most_least_of (λ (p : Packet). f_at e.space p.message) b e.left pending.left)

-- ---- the messages underway as they lie in memory

module _ {S F : Type 0} (values : F → List ℕ) (space : SpaceOf S) where
  pub least_underway : (left : List (VecDeque (memory_packet.Packet F) Global)) → least_packet space (all_packets values left)
      ≡ least (map (λ q. least (map (λ p. f_at space (message_of values p.message)) q.items)) left)
  least_underway [] = refl
  least_underway (q ∷ qs) =
      let f : Packet → Distance = λ p. f_at space p.message in
      ap least (map-append f (packets_in values q) (all_packets values qs))
      ∙ least-append (map f (packets_in values q)) (map f (all_packets values qs))
      ∙ ap (λ (d : Distance). lesser d (least (map f (all_packets values qs)))) (ap least (sym (map_twice f (packet_of values) q.items)))
      ∙ ap (lesser (least (map (λ p. f (packet_of values p)) q.items))) (least_underway qs)

  pub small_packets : (left : List (VecDeque (memory_packet.Packet F) Global)) (i : ℕ) (q : VecDeque (memory_packet.Packet F) Global)
      → i < length left → q ≡ get_or left i q → All (λ p. IsSmallMessage space.task p.message) (all_packets values left)
      → All (λ p. IsSmallMessage space.task (message_of values p.message)) q.items
  small_packets left i q lt is small =
      let P : Packet → Type 0 = λ p. IsSmallMessage space.task p.message in
      all_under P (packet_of values) q.items
      (each_at (λ q. All P (packets_in values q)) left i q (all_flat P (packets_in values) left small) (at_read left i q lt is))

-- ---- the answer

le_test : (d e : Distance) → is_le (distance_cmp d e) ≡ is_at_most d e
le_test (Finite m) (Finite n) = grind (arith, common_steps)
le_test (Finite m) Infinite = refl
le_test Infinite (Finite n) = refl
le_test Infinite Infinite = refl

module _ {S : Type 0} (owner : S → List ℕ → ℕ → ℕ) (e : EndOf S) (form : IsForm e) (best pending : Distance)
    (is_best : best ≡ least_best e) (is_pending : pending ≡ least_pending owner e)
  where
    pub settled_where : is_le (distance_cmp best pending) ≡ true → IsSettledAt (space_at owner e) e.owners e.left best
    settled_where t = record {
      best = is_best;
      pending = pending_below owner e form best
          (subst (λ (d : Distance). best ≤ᵈ d) is_pending (is_at_most-true best pending (sym (le_test best pending) ∙ t)));
    }

    pub unsettled_where : is_le (distance_cmp best pending) ≡ false → (bound : Distance)
        → IsSettledAt (space_at owner e) e.owners e.left bound → ⊥
    unsettled_where t bound settled =
        let same : bound ≡ best = settled.best ∙ sym is_best in
        let below : (bound ≤ᵈ pending) =
        subst (λ (d : Distance). bound ≤ᵈ d) (sym is_pending) (below_pending owner e form bound settled.pending) in
        at_most_not_below best pending (subst (λ (d : Distance). d ≤ᵈ pending) same below)
        (is_at_most-false best pending (sym (le_test best pending) ∙ t))

-- ---- what is known of every end

module _ {S : Type 0} (owner : S → List ℕ → ℕ → ℕ) (e : EndOf S) (form : IsForm e) where
  pub owners_have_space : (owners : List (OwnerOf S)) → owners ≡ e.owners → All (λ o. o.space ≡ e.space) owners
  owners_have_space owners same =
      subst (All (λ (o : OwnerOf S). o.space ≡ e.space)) (sym same)
      (all_at (λ (o : OwnerOf S). o.space ≡ e.space) e.owners (λ v o at. (form.each v o at).0))

  -- what one owner tells of the space, all may be told
  pub told_by_first : (Told : SearchSpace → Type 0) (view : EndOf S) (o : OwnerOf S) → e ≡ view → o ≡ get_or e.owners 0 o
      → Told (space_of owner o) → Told (space_at owner view)
  told_by_first Told view o same is told =
      subst (λ (d : EndOf S). Told (space_at owner d)) same
      (subst Told (one_space owner e form 0 o (at_read e.owners 0 o form.some is)) told)
