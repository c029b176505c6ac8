-- Whether a turn expands a node.
use Rattle.std.proofs.Common.{◌≡◌, ℕ, zero, suc, Bool, true, false, ◌&&◌, ◌||◌, not, List, [], ◌∷◌, Option, Some, None, sym, ap, ◌∙◌, subst, is_some, cond}
use Rattle.std.specs.List.{list_all}
use Rattle.std.proofs.lemmas.Bool.{and_parts, not-true, false_from_ne_true}
use Rattle.cost.specs.Distances.{Distance, Infinite, is_at_most, is_below, lesser, ◌≤ᵈ◌}
use Rattle.cost.proofs.DistanceLaws.{at_most_infinite, at_most_through, at_most_lesser, at_most_below_through, at_most_not_below, is_at_most-true, is_at_most-false, is_below-true, is_below-from, lesser_at_most_left, lesser_at_most_right}
use Rattle.owner_theory.specs.Owners.{At, SearchSpace, Node, f_value}
use Rattle.owner.specs.Owned.{OwnerOf, space_of, least_open}
use Rattle.worker.specs.Workers.{WorkerOf}
use Rattle.worker.specs.Turns.{ExpandsUnless}

not_below : (d e : Distance) → e ≤ᵈ d → is_below d e ≡ false
not_below d e h = false_from_ne_true (is_below d e) (λ t. at_most_not_below e d h (is_below-true d e t))

passes_one : (bound : Distance) (b : Bool) (d : Distance) → (b || is_at_most bound d) ≡ true → bound ≤ᵈ cond b Infinite d
passes_one bound true d h = at_most_infinite bound
passes_one bound false d h = is_at_most-true bound d h

-- no node is open below the bound
none_below : (space : SearchSpace) (bound : Distance) (ns : List Node)
    → list_all (λ n. n.expanded || is_at_most bound (f_value space n.state n.cost)) ns ≡ true → bound ≤ᵈ least_open space ns
none_below space bound [] h = at_most_infinite bound
none_below space bound (n ∷ ns) h =
    let f = f_value space n.state n.cost in
    let both = and_parts (n.expanded || is_at_most bound f) (list_all (λ x. x.expanded || is_at_most bound (f_value space x.state x.cost)) ns) h in
    at_most_lesser bound (cond n.expanded Infinite f) (least_open space ns) (passes_one bound n.expanded f both.0) (none_below space bound ns both.1)

-- the least f-value is at most that of an open node
least_at_most : (space : SearchSpace) (ns : List Node) (i : ℕ) (n : Node) → At ns i n → n.expanded ≡ false
    → least_open space ns ≤ᵈ f_value space n.state n.cost
least_at_most space [] i n at waits = absurd at
least_at_most space (x ∷ ns) zero n at waits =
    subst (λ (d : Distance). lesser (cond x.expanded Infinite (f_value space x.state x.cost)) (least_open space ns) ≤ᵈ d)
    ((λ j. cond (ap (λ (y : Node). y.expanded) at j) Infinite (f_value space ((at j).state) ((at j).cost)))
    ∙ ap (λ b. cond b Infinite (f_value space n.state n.cost)) waits)
    (lesser_at_most_left (cond x.expanded Infinite (f_value space x.state x.cost)) (least_open space ns))
least_at_most space (x ∷ ns) (suc i) n at waits =
    at_most_through _ (least_open space ns) (f_value space n.state n.cost)
    (lesser_at_most_right (cond x.expanded Infinite (f_value space x.state x.cost)) (least_open space ns))
    (least_at_most space ns i n at waits)

module _ {S F : Type 0} (owner : S → List ℕ → ℕ → ℕ) where
  -- whether a node is expanded, if the outboxes are congested or not
  pub expands_told : (a b : WorkerOf S F) (posted : Option ℕ) (waits : Bool) → ExpandsUnless owner a b posted waits
      → (not waits && is_below (least_open (space_of owner a.owner) a.owner.nodes) a.bound) ≡ is_some posted
  expands_told a b posted true e = sym (ap is_some e.1)
  expands_told a b None false e =
      not_below (least_open (space_of owner a.owner) a.owner.nodes) a.bound
      (none_below (space_of owner a.owner) a.bound a.owner.nodes e.expansion.0)
  expands_told a b (Some posted) false e =
      let space = space_of owner a.owner in
      let n = e.expansion.node in
      let next = e.expansion.next in
      is_below-from (least_open space a.owner.nodes) a.bound
      (at_most_below_through (least_open space a.owner.nodes) (f_value space n.state n.cost) a.bound
      (least_at_most space a.owner.nodes e.expansion.index n next.there (not-true n.expanded (and_parts (not n.expanded) _ next.open_node).0))
      (is_at_most-false a.bound (f_value space n.state n.cost) next.below))
