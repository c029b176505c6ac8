-- An end and a lawful family that ends so.
use Rattle.std.proofs.Common.{◌≡◌, ◌↔◌, ℕ, zero, suc, ◌≤◌, false, List, [], ◌∷◌, length, map, Some, All, sym, subst, ◌∙◌, arith}
use Rattle.std.proofs.lemmas.List.Sorted.{All-permutation, IsPermutation-sym}
use Rattle.std.proofs.lemmas.List.Elements.{All-head, All-tail}
use Rattle.cost.specs.Distances.{Distance, Finite, ◌≤ᵈ◌, least}
use Rattle.cost.proofs.DistanceLaws.{at_most_itself, at_most_both, at_most_through}
use Rattle.owner_theory.specs.Owners.{At, list_at, SearchSpace, Node, Message, Packet, f_value}
use Rattle.owner_theory.specs.Families.{Family, IsSearchSpace, PendingAbove, IsSettled, IsGoalNode, least_of, best_of}
use Rattle.owner_theory.proofs.Distances.{least_of_at_most}
use Rattle.owner_theory.proofs.Distances as distances
use Rattle.owner_theory.proofs.Plans.{best_node}
use Rattle.owner_theory.proofs.Runs.{good}
use Rattle.owner.specs.Owned.{OwnerOf}
use Rattle.extract.specs.Ends.{EndOf, IsEndOf, ArePendingAbove, IsSettledAt, IsMessageAbove, IsGoalNodeAt, IsBestGoal, space_at}
use Rattle.extract.proofs.Places.{at_below, at_some, each_at, all_at}
use Rattle.extract.proofs.Leasts.{at_most_each, at_most_least_of}

-- the least of a list's values, by their places
least_by_place : {X : Type 0} (g : X → Distance) (f : ℕ → Distance) (xs : List X) → ((i : ℕ) (x : X) → At xs i x → f i ≡ g x)
    → least (map g xs) ≡ least_of (length xs) f
least_by_place g f xs same =
    let a : Distance = least (map g xs) in
    let b : Distance = least_of (length xs) f in
    at_most_both a b
    (distances.at_most_least_of (length xs) f a (λ w lt.
    let (x, at) = at_some xs w lt in
    subst (λ (d : Distance). a ≤ᵈ d) (sym (same w x at))
    (each_at (λ x. a ≤ᵈ g x) xs w x (at_most_each g a xs (at_most_itself a)) at)))
    (at_most_least_of g b xs
    (all_at (λ x. b ≤ᵈ g x) xs (λ i x at. subst (λ (d : Distance). b ≤ᵈ d) (same i x at)
    (least_of_at_most (length xs) f i (at_below xs i x at)))))

list_at_there : {X : Type 0} (qs : List (List X)) (v : ℕ) (q : List X) → At qs v q → q ≡ list_at qs v
list_at_there [] v q at = absurd at
list_at_there (p ∷ ps) zero q at = sym at
list_at_there (p ∷ ps) (suc v) q at = list_at_there ps v q at

posted_at : {X : Type 0} (P : X → Type 0) (qs : List (List X)) (v i : ℕ) (x : X) → All (All P) qs → At (list_at qs v) i x → P x
posted_at P [] v i x h at = absurd at
posted_at P (q ∷ qs) zero i x h at = each_at P q i x (All-head (All P) q qs h) at
posted_at P (q ∷ qs) (suc v) i x h at = posted_at P qs v i x (All-tail (All P) q qs h) at

module _ {S : Type 0} (owner : S → List ℕ → ℕ → ℕ) (e : EndOf S) (family : Family) (ends : IsEndOf owner e family) where
  abbrev Sp : SearchSpace
  Sp = space_at owner e

  pub best_same : least (map (λ o. o.best) e.owners) ≡ best_of Sp family
  best_same = least_by_place (λ (o : OwnerOf S). o.best) (λ w. (family.logs w).owner.best) e.owners ends.best

  module _ (b : Distance) where
    abbrev NodeAbove : Node → Type 0
    NodeAbove n = n.expanded ≡ false → b ≤ᵈ f_value Sp n.state n.cost

    abbrev PacketAbove : Packet → Type 0
    PacketAbove p = IsMessageAbove Sp b p.message

    pub pending_to_family : ArePendingAbove Sp e.owners e.left b → PendingAbove Sp family b
    pending_to_family pending = record {
      nodes = λ w i n lt at.
          let (o, at_o) = at_some e.owners w lt in
          each_at NodeAbove o.nodes i n (each_at (λ o. All NodeAbove o.nodes) e.owners w o pending.nodes at_o)
          (subst (λ (ns : List Node). At ns i n) (ends.nodes w o at_o) at);
      outboxes = λ w v i m lt at.
          let (o, at_o) = at_some e.owners w lt in
          posted_at (IsMessageAbove Sp b) o.outboxes v i m
          (each_at (λ o. All (All (IsMessageAbove Sp b)) o.outboxes) e.owners w o pending.outboxes at_o)
          (subst (λ (qs : List (List Message)). At (list_at qs v) i m) (ends.outboxes w o at_o) at);
      left = λ i p at. each_at PacketAbove family.left i p
          (All-permutation PacketAbove e.left family.left (IsPermutation-sym family.left e.left ends.left) pending.left) at;
    }

    pending_from_family : PendingAbove Sp family b → ArePendingAbove Sp e.owners e.left b
    pending_from_family pending = record {
      nodes = all_at (λ o. All NodeAbove o.nodes) e.owners (λ w o at_o. all_at NodeAbove o.nodes (λ i n at.
          pending.nodes w i n (at_below e.owners w o at_o)
          (subst (λ (ns : List Node). At ns i n) (sym (ends.nodes w o at_o)) at)));
      outboxes = all_at (λ o. All (All (IsMessageAbove Sp b)) o.outboxes) e.owners (λ w o at_o.
          all_at (All (IsMessageAbove Sp b)) o.outboxes (λ v q at_q. all_at (IsMessageAbove Sp b) q (λ i m at.
          pending.outboxes w v i m (at_below e.owners w o at_o)
          (subst (λ (qs : List (List Message)). At (list_at qs v) i m) (sym (ends.outboxes w o at_o))
          (subst (λ (ms : List Message). At ms i m) (list_at_there o.outboxes v q at_q) at)))));
      left = All-permutation PacketAbove family.left e.left ends.left (all_at PacketAbove family.left pending.left);
    }

    pub to_family : IsSettledAt Sp e.owners e.left b → IsSettled Sp family b
    to_family settled = record { best = settled.best ∙ best_same; pending = pending_to_family settled.pending }

    pub from_family : IsSettled Sp family b → IsSettledAt Sp e.owners e.left b
    from_family settled = record { best = settled.best ∙ sym best_same; pending = pending_from_family settled.pending }

  pub as_family : (b : Distance) → IsSettledAt Sp e.owners e.left b ↔ IsSettled Sp family b
  as_family b = (to_family b, from_family b)

  -- a goal node of the family is one of the end
  goal_node : (w i cost : ℕ) → IsGoalNode Sp family w i cost → (n : Node) × IsGoalNodeAt e w i n × (n.cost ≡ cost)
  goal_node w i cost (n, lt, at, goal, is) =
      let (o, at_o) = at_some e.owners w lt in (
        n,
        record { holder = o; owner = at_o; there = subst (λ (ns : List Node). At ns i n) (ends.nodes w o at_o) at; goal = goal },
        is,
      )

  module _ (ok : IsSearchSpace Sp) where
    -- no goal node costs less than the least cost at which a goal state was taken
    pub goal_above : (v i : ℕ) (n : Node) → IsGoalNodeAt e v i n → least (map (λ o. o.best) e.owners) ≤ᵈ Finite n.cost
    goal_above v i n g =
        let o : OwnerOf S = g.holder in
        let best : Distance = least (map (λ (o : OwnerOf S). o.best) e.owners) in
        let known = good Sp v (family.logs v) ok (ends.lawful.runs v) in
        let taken : ((family.logs v).owner.best ≤ᵈ Finite n.cost) =
        known.core.goal i n (subst (λ (ns : List Node). At ns i n) (sym (ends.nodes v o g.owner)) g.there) g.goal in
        let bound : (best ≤ᵈ o.best) =
        each_at (λ (o : OwnerOf S). best ≤ᵈ o.best) e.owners v o
        (at_most_each (λ (o : OwnerOf S). o.best) best e.owners (at_most_itself best)) g.owner in
        at_most_through best o.best (Finite n.cost) bound
        (subst (λ (d : Distance). d ≤ᵈ Finite n.cost) (ends.best v o g.owner) taken)

    goal_at_least : (cost v i : ℕ) (n : Node) → IsSettledAt Sp e.owners e.left (Finite cost) → IsGoalNodeAt e v i n → cost ≤ n.cost
    goal_at_least cost v i n settled g = subst (λ (d : Distance). d ≤ᵈ Finite n.cost) (sym settled.best) (goal_above v i n g)

    -- a goal node has that cost
    pub goal_with_best : (cost : ℕ) → least (map (λ o. o.best) e.owners) ≡ Finite cost → (w : ℕ) × (j : ℕ) × (n : Node) × IsGoalNodeAt e w j n × (n.cost ≡ cost)
    goal_with_best cost is =
        let (w, j, found) = best_node Sp family ok ends.lawful cost (sym best_same ∙ is) in
        let (n, goal, same) = goal_node w j cost found in (w, j, n, goal, same)

    -- the best goal node costs what the end is settled at
    pub best_cost : (v i cost : ℕ) (best : IsBestGoal e (Some (v, i))) → IsSettledAt Sp e.owners e.left (Finite cost) → best.0.cost ≡ cost
    best_cost v i cost (n, g, least_is) settled =
        let (w, j, found) = best_node Sp family ok ends.lawful cost (sym (to_family (Finite cost) settled).best) in
        let (m, gm, is) = goal_node w j cost found in
        let above : n.cost ≤ m.cost = (least_is w j m gm).0 in
        let below : cost ≤ n.cost = goal_at_least cost v i n settled g in omega arith
