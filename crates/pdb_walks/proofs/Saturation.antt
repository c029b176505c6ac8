-- Distances make consistent tables, and saturated shares keep them so.
use Rattle.std.proofs.Common.{◌≡◌, ℕ, ◌+◌, ◌-◌, ◌≤◌, ◌<◌, List, [], ◌∷◌, Option, Some, None, refl, arith, ⊎_elim}
use Rattle.std.specs.Prelude.{IfSome, IsSomeAnd, sum_by, All}
use Rattle.std.proofs.lemmas.List.Elements.{All-nil, All-cons, All-head, All-tail}
use Rattle.std.proofs.lemmas.List.Sums.{sum_by-cons}
use Rattle.cost.specs.Distances.{Distance, Finite, Infinite, ◌≤ᵈ◌, ◌+ᵈ◌}
use Rattle.fdr.specs.Tasks.{FiniteDomainTask, cost_of}
use Rattle.abstraction.specs.Abstractions.{Abstraction, Table, IsAbstractionOf, IsConsistent}
use Rattle.abstraction.specs.Columns.{IsTableOf, IsColumn}
use Rattle.pdb_walks.specs.Walks.{IsWalkFrom, IsTotalFrom, IsDistanceFrom, HasDistances, fall, IsGreatestFall, IsSaturated, IsPartition}

abbrev AbstractsTask : FiniteDomainTask → Table → Type 0
AbstractsTask task t = IsAbstractionOf task t.abstraction

-- a distance that is at most 0 is 0
least_zero : (d : Distance) → d ≤ᵈ Finite 0 → d ≡ Finite 0
least_zero Infinite h = absurd h
least_zero (Finite n) h = let e : n ≡ 0 = omega arith in rw e

-- a distance that is at most x and every total from j
through : (a : Abstraction) (share : ℕ → ℕ) (i j o : ℕ) (d e : Distance) → a.transition i o ≡ Some j → IsDistanceFrom a share i d → IsTotalFrom a share j e → d ≤ᵈ Finite (share o) +ᵈ e
through a share i j o d Infinite t from total = tt
through a share i j o d (Finite n) t from total =
    let longer : IsWalkFrom a i (o ∷ total.0) = rw t total.1 in
    let same : sum_by share (o ∷ total.0) ≡ share o + n = rw (sum_by-cons share o total.0, total.2) in
    rw same at (from.least (o ∷ total.0) longer)

pub distances_consistent : (task : FiniteDomainTask) (t : Table) → IsAbstractionOf task t.abstraction → HasDistances t t.share → IsConsistent t
distances_consistent task t abs exact =
    record {
      goals = λ i l goal. least_zero (t.value i) ((exact i l).least [] goal);
      steps = λ i o l. go i o l (t.abstraction.transition i o) refl (abs.transitions i o l);
    }
  where
    go : (i o : ℕ) → i < t.abstraction.size → (r : Option ℕ) → t.abstraction.transition i o ≡ r → IfSome r (λ j. j < t.abstraction.size) → IfSome r (λ j. t.value i ≤ᵈ Finite (t.share o) +ᵈ t.value j)
    go i o l None e below = tt
    go i o l (Some j) e below = through t.abstraction t.share i j o (t.value i) (t.value j) e (exact i l) (exact j below).reached

-- a step under some shares is one under the fall, and the fall is at most the share
step_by_fall : (d e : Distance) (x n : ℕ) → d ≤ᵈ Finite x +ᵈ e → fall d e ≤ n → d ≤ᵈ Finite n +ᵈ e
step_by_fall d Infinite x n h l = tt
step_by_fall Infinite (Finite k) x n h l = absurd h
step_by_fall (Finite m) (Finite k) x n h l = omega arith

fall_below : (d e : Distance) (x : ℕ) → d ≤ᵈ Finite x +ᵈ e → fall d e ≤ x
fall_below Infinite e x h = omega arith
fall_below (Finite m) Infinite x h = omega arith
fall_below (Finite m) (Finite k) x h = omega arith

module _ (t : Table) (made_with : ℕ → ℕ) (saturated : IsSaturated t) (ok : IsConsistent (record t { share = made_with })) where
  pub saturated_consistent : IsConsistent t
  saturated_consistent =
      record {
        goals = ok.goals;
        steps = λ i o l. go i o (t.abstraction.transition i o) (ok.steps i o l) ((saturated o).upper i l);
      }
    where
      go : (i o : ℕ) (r : Option ℕ) → IfSome r (λ j. t.value i ≤ᵈ Finite (made_with o) +ᵈ t.value j) → IfSome r (λ j. fall (t.value i) (t.value j) ≤ t.share o) → IfSome r (λ j. t.value i ≤ᵈ Finite (t.share o) +ᵈ t.value j)
      go i o None h l = tt
      go i o (Some j) h l = step_by_fall (t.value i) (t.value j) (made_with o) (t.share o) h l

  pub saturated_below : (o : ℕ) → t.share o ≤ made_with o
  saturated_below o = ⊎_elim (λ e. omega (arith, e)) (λ w. go w.0 (t.abstraction.transition w.0 o) (ok.steps w.0 o w.1) w.2) (saturated o).reached
    where
      go : (i : ℕ) (r : Option ℕ) → IfSome r (λ j. t.value i ≤ᵈ Finite (made_with o) +ᵈ t.value j) → IsSomeAnd r (λ j. fall (t.value i) (t.value j) ≡ t.share o) → t.share o ≤ made_with o
      go i None h e = absurd e
      go i (Some j) h e = omega (arith, e, fall_below (t.value i) (t.value j) (made_with o) h)

-- two distances that are each at most the other are one
same_distance : (d e : Distance) → d ≤ᵈ e → e ≤ᵈ d → d ≡ e
same_distance Infinite Infinite h k = refl
same_distance Infinite (Finite n) h k = absurd h
same_distance (Finite m) Infinite h k = absurd k
same_distance (Finite m) (Finite n) h k = let e : m ≡ n = omega arith in rw e

-- a distance is at most any total
distance_below : (a : Abstraction) (share : ℕ → ℕ) (i : ℕ) (d e : Distance) → IsDistanceFrom a share i d → IsTotalFrom a share i e → d ≤ᵈ e
distance_below a share i d Infinite from total = tt
distance_below a share i d (Finite n) from total = rw total.2 at (from.least total.0 total.1)

pub distance_unique : (a : Abstraction) (share : ℕ → ℕ) (i : ℕ) (d e : Distance) → IsDistanceFrom a share i d → IsDistanceFrom a share i e → d ≡ e
distance_unique a share i d e from other =
    same_distance d e (distance_below a share i d e from other.reached) (distance_below a share i e d other from.reached)

-- a greatest fall is at most any other
fall_at_most : (a : Abstraction) (value : ℕ → Distance) (o m n : ℕ) → IsGreatestFall a value o m → IsGreatestFall a value o n → m ≤ n
fall_at_most a value o m n h k = ⊎_elim (λ e. omega (arith, e)) (λ w. go w.0 (a.transition w.0 o) (k.upper w.0 w.1) w.2) h.reached
  where
    go : (i : ℕ) (r : Option ℕ) → IfSome r (λ j. fall (value i) (value j) ≤ n) → IsSomeAnd r (λ j. fall (value i) (value j) ≡ m) → m ≤ n
    go i None l e = absurd e
    go i (Some j) l e = omega arith

pub fall_unique : (a : Abstraction) (value : ℕ → Distance) (o m n : ℕ) → IsGreatestFall a value o m → IsGreatestFall a value o n → m ≡ n
fall_unique a value o m n h k = omega (arith, fall_at_most a value o m n h k, fall_at_most a value o n m k h)

-- the tables of a partition are consistent, and their shares are within what is left
module _ (task : FiniteDomainTask) where
  made_consistent : (t : Table) (left : ℕ → ℕ) → IsAbstractionOf task t.abstraction → HasDistances t left → IsConsistent (record t { share = left })
  made_consistent t left abs exact = distances_consistent task (record t { share = left }) abs exact

  partition_tables : (left : ℕ → ℕ) (column : List Table) → All (AbstractsTask task) column → IsPartition left column → All (IsTableOf task) column
  partition_tables left [] abs p = All-nil (IsTableOf task)
  partition_tables left (t ∷ ts) abs p =
      let here = All-head (AbstractsTask task) t ts abs in
      All-cons (IsTableOf task) t ts
      (record { abstraction = here; consistent = saturated_consistent t left p.1 (made_consistent t left here p.0) })
      (partition_tables (λ q. left q - t.share q) ts (All-tail (AbstractsTask task) t ts abs) p.2)

  partition_costs : (left : ℕ → ℕ) (column : List Table) → All (AbstractsTask task) column → IsPartition left column → (o : ℕ) → sum_by (λ t. t.share o) column ≤ left o
  partition_costs left [] abs p o = omega arith
  partition_costs left (t ∷ ts) abs p o =
      let here = All-head (AbstractsTask task) t ts abs in
      let first = saturated_below t left p.1 (made_consistent t left here p.0) o in
      let rest = partition_costs (λ q. left q - t.share q) ts (All-tail (AbstractsTask task) t ts abs) p.2 o in
      omega (arith, first, rest, sum_by-cons (λ (t : Table). t.share o) t ts)

  pub partition_column : (column : List Table) → All (AbstractsTask task) column → IsPartition (cost_of task) column → IsColumn task column
  partition_column column abs p =
      record { tables = partition_tables (cost_of task) column abs p; costs = partition_costs (cost_of task) column abs p }
