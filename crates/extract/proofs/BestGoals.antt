-- The first goal node whose cost is the least at which a goal state was taken is the best one.
use Rattle.std.proofs.Common.{◌≡◌, ℕ, ◌≤◌, Bool, true, false, ◌&&◌, List, map, Option, Some, None, refl, sym, ap, subst, ◌∙◌, arith, true≢false}
use Rattle.std.specs.Prelude.{◌==◌, IfOk}
use Rattle.std.specs.declared.alloc.AllocError.{AllocError}
use Rattle.std.specs.declared.result.Result.{Result}
use Rattle.std.proofs.lemmas.Bool.{eqb-true, eq-eqb}
use Rattle.std.proofs.lemmas.Grind.{not_there}
use Rattle.std.proofs.lemmas.Result.{IfOk-weaker}
use Rattle.cost.specs.Distances.{Distance, Finite, Infinite, ◌≤ᵈ◌, least}
use Rattle.fdr.specs.Tasks.{is_goal_state}
use Rattle.owner_theory.specs.Owners.{Node}
use Rattle.owner_theory.specs.Families.{Family, IsSearchSpace}
use Rattle.owner.specs.Owned.{OwnerOf}
use Rattle.extract.specs.Ends.{EndOf, IsEndOf, IsGoalNodeAt, IsBestGoal, space_at}
use Rattle.extract.specs.Goals.{is_goal_at, first_in_rows, first_goal}
use Rattle.extract.proofs.Families.{goal_above, goal_with_best}
use Rattle.extract.proofs.FirstPlaces.{IsNotLater, PassesAt, IsFirstPlace, place_is_first}
use Rattle.extract.proofs.Truncated.{told_at_most}

both_true : (a b : Bool) → (a && b) ≡ true → (a ≡ true) × (b ≡ true)
both_true false b h = absurd (true≢false (sym h))
both_true true b h = (refl, h)

true_both : (a b : Bool) → a ≡ true → b ≡ true → (a && b) ≡ true
true_both false b is so = absurd (true≢false (sym is))
true_both true b is so = so

module _ {S : Type 0} (owner : S → List ℕ → ℕ → ℕ) (e : EndOf S) (there : ∥ ((family : Family) × IsEndOf owner e family) ∥₁)
    (ok : IsSearchSpace (space_at owner e))
  where
    abbrev Passes : ℕ → ℕ → ℕ → Type 0
    Passes cost v i = PassesAt (λ (o : OwnerOf S). o.nodes) (is_goal_at e.space.task cost) e.owners v i

    goal_passes : (cost v i : ℕ) (n : Node) → IsGoalNodeAt e v i n → n.cost ≡ cost → Passes cost v i
    goal_passes cost v i n g is = record {
      holder = g.holder;
      there = g.owner;
      element = n;
      at = g.there;
      passes = true_both (n.cost == cost) (is_goal_state e.space.task n.state) (eq-eqb n.cost cost is) g.goal;
    }

    passing_goal : (cost v i : ℕ) (p : Passes cost v i) → IsGoalNodeAt e v i p.element × (p.element.cost ≡ cost)
    passing_goal cost v i p =
        let (same, goal) = both_true (p.element.cost == cost) (is_goal_state e.space.task p.element.state) p.passes in
        (record { holder = p.holder; owner = p.there; there = p.at; goal = goal }, eqb-true p.element.cost cost same)

    -- if the least cost at which a goal state was taken is finite
    module _ (cost : ℕ) (is : least (map (λ o. o.best) e.owners) ≡ Finite cost) where
      costs_more : (w j : ℕ) (m : Node) → IsGoalNodeAt e w j m → cost ≤ m.cost
      costs_more w j m g =
          told_at_most there cost m.cost (λ known. subst (λ (d : Distance). d ≤ᵈ Finite m.cost) is (goal_above owner e known.0 known.1 ok w j m g))

      first_of_cost : (place : Option (ℕ × ℕ)) → IsFirstPlace (λ (o : OwnerOf S). o.nodes) (is_goal_at e.space.task cost) 0 e.owners place → IsBestGoal e place
      first_of_cost None none = λ v i n g. not_there there (λ known.
          let (w, j, m, goal, same) = goal_with_best owner e known.0 known.1 ok cost is in
          none w j (goal_passes cost w j m goal same))
      first_of_cost (Some (v, i)) (k, row, p, least_is) =
          let same : k ≡ v = omega (arith, row) in
          let (goal, costs) = passing_goal cost k i p in (
            p.element,
            subst (λ w. IsGoalNodeAt e w i p.element) same goal,
            λ w j m g. (
              (let more = costs_more w j m g in omega (arith, more, costs)),
              λ equal. subst (λ u. IsNotLater u i w j) same (least_is w j (goal_passes cost w j m g (equal ∙ costs))),
            ),
          )

    first_is_best : (best : Distance) → least (map (λ o. o.best) e.owners) ≡ best → IsBestGoal e (first_goal e.space.task best e.owners)
    first_is_best (Finite cost) is =
        first_of_cost cost is (first_in_rows (λ o. o.nodes) (is_goal_at e.space.task cost) 0 e.owners)
        (place_is_first (λ (o : OwnerOf S). o.nodes) (is_goal_at e.space.task cost) e.owners 0)
    first_is_best Infinite is = λ v i n g. not_there there (λ known.
        subst (λ (d : Distance). d ≤ᵈ Finite n.cost) is (goal_above owner e known.0 known.1 ok v i n g))

    -- as the body sees it: the owners by a reference
    pub first_in_view : (inside : EndOf S) (owners : List (OwnerOf S)) (result : Result (Option (ℕ × ℕ)) AllocError) → inside ≡ e
        → owners ≡ inside.owners
        → IfOk result (λ place. place ≡ first_goal inside.space.task (least (map (λ o. o.best) owners)) owners) → IfOk result (IsBestGoal e)
    first_in_view inside owners result same are found =
        IfOk-weaker result (λ place. place ≡ first_goal inside.space.task (least (map (λ (o : OwnerOf S). o.best) owners)) owners) (IsBestGoal e)
        (λ place is. subst (IsBestGoal e)
        (sym (is ∙ ap (λ (os : List (OwnerOf S)). first_goal inside.space.task (least (map (λ (o : OwnerOf S). o.best) os)) os) are
        ∙ ap (λ (d : EndOf S). first_goal d.space.task (least (map (λ (o : OwnerOf S). o.best) d.owners)) d.owners) same))
        (first_is_best (least (map (λ o. o.best) e.owners)) refl))
        found
