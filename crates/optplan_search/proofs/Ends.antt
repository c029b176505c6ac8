-- What a search has found at its end.
use Rattle.std.proofs.Common.{◌≡◌, ℕ, ◌<◌, ◌≤◌, ◌^◌, List, [], ◌∷◌, zero, suc, length, get_or, All, Option, Some, None, refl, sym, ap, subst, ◌∙◌, arith}
use Rattle.std.proofs.Math.Logic.{∥∥₁_elim}
use Rattle.cost.specs.Distances.{Distance, Finite, Infinite, ◌≤ᵈ◌, lesser}
use Rattle.cost.proofs.DistanceLaws.{at_most_itself, at_most_through, at_most_both, at_most-prop, at_most_infinite, lesser_at_most_left, lesser_at_most_right}
use Rattle.fdr.specs.Tasks.{FiniteDomainTask, EveryPlanCostsAtLeast, plan_cost}
use Rattle.owner_theory.specs.Owners.{At, Node}
use Rattle.owner_theory.specs.Families.{Family, IsSearchSpace, IsLowerBound, closed_of}
use Rattle.owner_theory.proofs.Closed.{finished}
use Rattle.owner_theory.proofs.Plans.{best_node}
use Rattle.owner_theory.proofs.Runs.{good}
use Rattle.owner.specs.Owned.{OwnerOf, IsKept, space_of, max_total}
use Rattle.std.specs.List.Sorted.{IsPermutation}
use Rattle.std.proofs.lemmas.List.Sorted.{length_permutation}
use Rattle.cert_value.specs.Certificates.{Entry, CertificateValue}
use Rattle.cert_value.specs.Views.{kind_of}
use Rattle.cert_value.specs.declared.certificate.CertificateKind.{CertificateKind}
use Rattle.cert_value.specs.declared.certificate.Version.TheVariants.{Two}
use Rattle.cert_value.specs.Lawful.{IsLawful, IsLawfulKind}
use Rattle.optplan_search.specs.Findings.{plain, Wanted, IsCertificateOf, IsCertifiedBy, IsCheapestPlan, IsPlanAt, IsBestSoFar, IsSettledEnd}
use Rattle.optplan_search.specs.declared.found.FoundPlan.{FoundPlan}
use Rattle.checker_clauses.specs.Violations.{IsHeld}
use Rattle.checker_clauses.proofs.Following.{bound_holds}
use Rattle.extract.specs.Ends.{EndOf, IsEndOf, IsForm, ArePendingAbove, IsBestGoal, IsGoalNodeAt, space_at}
use Rattle.extract.specs.Bounds.{least_pending, least_best, lower_bound}
use Rattle.extract.proofs.Families.{best_same, pending_to_family}
use Rattle.extract.proofs.Places.{at_some, at_below, at_read, each_at}
use Rattle.extract.proofs.Leasts.{at_most_each}
use Rattle.extract.proofs.Pending.{pending_below}
use Rattle.extract.proofs.Bounds.{stated_at_most}

pub nothing_prop : IsProp ⊥
nothing_prop x y = absurd x

module _ {S : Type 0} (owner : S → List ℕ → ℕ → ℕ) (e : EndOf S) where
  abbrev HasFamily : Type 0
  HasFamily = ∥ ((family : Family) × IsEndOf owner e family) ∥₁

  -- a goal node of each cost at which a goal state was the best that was taken
  goal_of : (family : Family) → IsEndOf owner e family → IsSearchSpace (space_at owner e) → (cost : ℕ) → least_best e ≡ Finite cost
      → (w i : ℕ) × (n : Node) × IsGoalNodeAt e w i n × (n.cost ≡ cost)
  goal_of family ends ok cost is =
      let (w, j, found) = best_node (space_at owner e) family ok ends.lawful cost (sym (best_same owner e family ends) ∙ is) in
      let (n, below, at, goal, costs) = found in
      let (o, at_o) = at_some e.owners w below in
      (w, j, n, record { holder = o; owner = at_o; there = subst (λ (ns : List Node). At ns j n) (ends.nodes w o at_o) at; goal = goal }, costs)

  -- where there is no goal node, no goal state was taken
  pub none_taken : IsSearchSpace (space_at owner e) → HasFamily → IsBestGoal e None → least_best e ≡ Infinite
  none_taken ok known none = go (least_best e) refl
    where
      go : (d : Distance) → least_best e ≡ d → least_best e ≡ Infinite
      go Infinite is = is
      go (Finite cost) is = absurd (∥∥₁_elim known nothing_prop (λ it.
          let (w, i, n, at, costs) = goal_of it.0 it.1 ok cost is in none w i n at))

  -- a best goal node costs what the best goal state that was taken did
  pub best_taken : IsSearchSpace (space_at owner e) → HasFamily → (v i : ℕ) (best : IsBestGoal e (Some (v, i))) → least_best e ≡ Finite best.0.cost
  best_taken ok known v i (n, at, least_is) =
      at_most_both (least_best e) (Finite n.cost)
      (∥∥₁_elim known (at_most-prop (least_best e) (Finite n.cost)) (λ it. least_at_most it.0 it.1))
      (below (least_best e) refl)
    where
      least_at_most : (family : Family) → IsEndOf owner e family → least_best e ≤ᵈ Finite n.cost
      least_at_most family ends =
          let o : OwnerOf S = at.holder in
          let known = good (space_at owner e) v (family.logs v) ok (ends.lawful.runs v) in
          at_most_through (least_best e) o.best (Finite n.cost)
          (each_at (λ (o : OwnerOf S). least_best e ≤ᵈ o.best) e.owners v o
          (at_most_each (λ (o : OwnerOf S). o.best) (least_best e) e.owners (at_most_itself (least_best e))) at.owner)
          (subst (λ (d : Distance). d ≤ᵈ Finite n.cost) (ends.best v o at.owner)
          (known.core.goal i n (subst (λ (ns : List Node). At ns i n) (sym (ends.nodes v o at.owner)) at.there) at.goal))

      below : (d : Distance) → least_best e ≡ d → Finite n.cost ≤ᵈ least_best e
      below Infinite is = subst (λ (d : Distance). Finite n.cost ≤ᵈ d) (sym is) tt
      below (Finite cost) is =
          ∥∥₁_elim known (at_most-prop (Finite n.cost) (least_best e)) (λ it.
          let (w, j, m, at_m, costs) = goal_of it.0 it.1 ok cost is in
          let le = (least_is w j m at_m).0 in
          subst (λ (d : Distance). Finite n.cost ≤ᵈ d) (sym is) (omega (arith, le, costs)))

  -- the lower bound is at most the best goal state that was taken
  below_best : lower_bound owner e ≤ᵈ least_best e
  below_best =
      at_most_through (lower_bound owner e) (lesser (least_best e) (least_pending owner e)) (least_best e)
      (stated_at_most (lesser (least_best e) (least_pending owner e))) (lesser_at_most_left (least_best e) (least_pending owner e))

  -- and at most all that is pending
  below_pending : IsForm e → ArePendingAbove (space_at owner e) e.owners e.left (lower_bound owner e)
  below_pending form =
      pending_below owner e form (lower_bound owner e)
      (at_most_through (lower_bound owner e) (lesser (least_best e) (least_pending owner e)) (least_pending owner e)
      (stated_at_most (lesser (least_best e) (least_pending owner e))) (lesser_at_most_right (least_best e) (least_pending owner e)))

  -- an end whose lower bound is infinite is settled
  pub infinite_settles : IsForm e → lower_bound owner e ≡ Infinite → IsSettledEnd owner e Infinite
  infinite_settles form is = record {
    best = at_most_both Infinite (least_best e) (subst (λ (d : Distance). d ≤ᵈ least_best e) is below_best) (at_most_infinite (least_best e));
    pending = subst (ArePendingAbove (space_at owner e) e.owners e.left) is (below_pending form);
  }

  -- no plan costs less than a bound that is at most the best goal state that was taken and at most all that is pending
  module _ (ok : IsSearchSpace (space_at owner e)) (lower : IsLowerBound e.space.task (space_at owner e).heuristic) (known : HasFamily) where
    bound_of : (bound : Distance) → bound ≤ᵈ least_best e → ArePendingAbove (space_at owner e) e.owners e.left bound
        → EveryPlanCostsAtLeast e.space.task bound
    bound_of bound best pending = λ plan leads.
        ∥∥₁_elim known (at_most-prop bound (Finite (plan_cost e.space.task plan))) (λ it.
        bound_holds e.space.task ok.task (space_at owner e).heuristic lower bound (closed_of (length e.owners) it.0.logs)
        (finished (space_at owner e) it.0 bound ok it.1.lawful (subst (λ (d : Distance). bound ≤ᵈ d) (best_same owner e it.0 it.1) best)
        (pending_to_family owner e it.0 it.1 bound pending))
        plan leads)

    -- so none costs less than the lower bound
    pub lower_bound_of : IsForm e → EveryPlanCostsAtLeast e.space.task (lower_bound owner e)
    lower_bound_of form = bound_of (lower_bound owner e) below_best (below_pending form)

    -- and none less than the bound at which the owners are settled
    pub settled_bound_of : (bound : Distance) → IsSettledEnd owner e bound → EveryPlanCostsAtLeast e.space.task bound
    settled_bound_of bound settled =
        bound_of bound (subst (λ (d : Distance). bound ≤ᵈ d) settled.best (at_most_itself bound)) settled.pending

-- the best plan so far costs at most the best goal state
pub best_so_far : (task : FiniteDomainTask) (best : Distance) (p : FoundPlan) (cost : ℕ) → best ≡ Finite cost → IsPlanAt task p.plan.items p.cost
    → Finite p.cost ≤ᵈ best → IsBestSoFar task best (Some p)
best_so_far task best p cost is plan within =
    subst (λ (d : Distance). IsBestSoFar task d (Some p)) (sym is) (plan, subst (λ (d : Distance). Finite p.cost ≤ᵈ d) is within)

at_same : {X : Type 0} (xs : List X) (i : ℕ) (x y : X) → At xs i x → At xs i y → x ≡ y
at_same [] i x y at at' = absurd at
at_same (z ∷ xs) zero x y at at' = sym at ∙ at'
at_same (z ∷ xs) (suc i) x y at at' = at_same xs i x y at at'

-- a goal node's cost is at most 2^62, as that of each node of its owner
pub small_goal : {S : Type 0} (owner : S → List ℕ → ℕ → ℕ) (e : EndOf S) (v i : ℕ) (n : Node) (o : OwnerOf S) → (at : IsGoalNodeAt e v i n)
    → o ≡ get_or e.owners v o → All (IsKept (space_of owner o) o.worker) o.nodes → n.cost ≤ max_total
small_goal owner e v i n o at is known =
    let there : At e.owners v o = at_read e.owners v o (at_below e.owners v at.holder at.owner) is in
    let same : at.holder ≡ o = at_same e.owners v at.holder o at.owner there in
    (each_at (IsKept (space_of owner o) o.worker) o.nodes i n known (subst (λ (h : OwnerOf _). At h.nodes i n) same at.there)).cost

-- a finite distance is not infinite
pub finite_apart : (n : ℕ) → Finite n ≡ Infinite → ⊥
finite_apart n is = subst (λ (d : Distance). d ≤ᵈ Finite n) is (at_most_itself (Finite n))

-- what `cert_of` tells of a certificate, for its bound
pub certified : (task : FiniteDomainTask) (kind : CertificateKind) (bound : Distance) (c : CertificateValue) (closed : List Entry) → c.version ≡ Two → c.kind ≡ kind_of kind
    → c.classes ≡ [] → IsPermutation closed c.closed → c.bound ≡ bound
    → IsHeld task c → (IsLawfulKind (kind_of kind) → length closed < 2 ^ 32 → IsLawful c) → IsCertificateOf task (plain kind) bound c
certified task kind bound c closed version is none same bound_is held lawful = record {
  version_is = version;
  kind_is = is;
  classes_are = none;
  bound_is = bound_is;
  held = held;
  lawful = λ of few. lawful of (subst (λ (n : ℕ). n < 2 ^ 32) (length_permutation closed c.closed same) few);
}

-- a plan that costs what the search is settled at
pub solved : (task : FiniteDomainTask) (wanted : Option Wanted) (best : Distance) (cost : ℕ) (p : FoundPlan) (c : Option CertificateValue) → best ≡ Finite cost
    → EveryPlanCostsAtLeast task (Finite cost) → IsBestSoFar task best (Some p) → p.cost ≡ cost → IsCertifiedBy task wanted (Finite cost) c
    → IsCheapestPlan task p.plan.items p.cost × IsCertifiedBy task wanted (Finite p.cost) c
solved task wanted best cost p c best_is least known costs of =
    let plan = (subst (λ (d : Distance). IsBestSoFar task d (Some p)) best_is known).0 in
    let same : Finite cost ≡ Finite p.cost = ap Finite (sym costs) in (
      record { leads = plan.leads; costs = plan.costs; least = subst (EveryPlanCostsAtLeast task) same least },
      subst (λ (d : Distance). IsCertifiedBy task wanted d c) same of,
    )
