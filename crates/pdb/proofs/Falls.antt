-- The decreases of values over the transitions of classes of operators.
use Rattle.std.proofs.Common.{◌≡◌, ℕ, ◌<◌, ◌≤◌, ◌⊎◌, max, List, length, Option, Some, None, slice_index, slice_set, refl, sym, ap, subst, inl, inr, ⊎_elim, arith}
use Rattle.std.specs.Prelude.{IfSome, IsSomeAnd, slice_get}
use Rattle.std.specs.Option.{option_map_or}
use Rattle.std.proofs.lemmas.Bool.{cases_lt}
use Rattle.std.proofs.lemmas.List.{get_or_past}
use Rattle.cost.specs.Distances.{Distance, Finite, Infinite, ◌≤ᵈ◌, ◌+ᵈ◌}
use Rattle.fdr.specs.Tasks.{FiniteDomainTask}
use Rattle.abstraction.specs.Abstractions.{Abstraction, Table, IsAbstractionOf}
use Rattle.pdb_walks.specs.Walks.{AreDistances, value_in, fall, IsGreatestFall}
use Rattle.abstraction_groups.specs.Entrances.{LeadsTo, Classes, AreClasses}
use Rattle.pdb_walks.proofs.Saturation.{distances_consistent, fall_unique}
use Rattle.pdb.specs.Classes.{share_by, AreLeast}
use Rattle.pdb.specs.Saturations.{AreConsistent, IsFallOf, AreFalls, AreFull, AreWithin, IsCoveredAt}
use Rattle.pdb.proofs.ClassLaws.{operator_below}
use Rattle.pdb.proofs.Lowering.{cases_set}
use Rattle.pdb.proofs.Expansion.{share_told, share_none}

pub value_in-get : (values : List Distance) (i : ℕ) (d : Distance) → slice_get values i ≡ Some d → value_in values i ≡ d
value_in-get values i d e = ap (λ (o : Option Distance). option_map_or (λ x. x) o Infinite) e

-- to itself a value does not fall, and to infinite none does
fall_itself : (d : Distance) → fall d d ≡ 0
fall_itself Infinite = refl
fall_itself (Finite n) = omega arith

fall_to_infinite : (d : Distance) → fall d Infinite ≡ 0
fall_to_infinite Infinite = refl
fall_to_infinite (Finite n) = refl

-- a fall is at most what a step costs
fall_at_most : (d e : Distance) (x : ℕ) → d ≤ᵈ Finite x +ᵈ e → fall d e ≤ x
fall_at_most Infinite e x h = omega arith
fall_at_most (Finite m) Infinite x h = omega arith
fall_at_most (Finite m) (Finite n) x h = omega arith

-- the distances under some shares are consistent under them
pub distances_are_consistent : (task : FiniteDomainTask) (a : Abstraction) (share : ℕ → ℕ) (values : List Distance) → IsAbstractionOf task a → AreDistances a share values → AreConsistent a share values
distances_are_consistent task a share values abs exact =
    let t : Table = record { abstraction = a; share = share; value = value_in values } in
    (distances_consistent task t abs exact.exact).steps

-- over a transition consistent values decrease by no more than the operator's share
pub fall_within_share : (a : Abstraction) (share : ℕ → ℕ) (values : List Distance) (o i j : ℕ) → AreConsistent a share values → LeadsTo a o i j → fall (value_in values i) (value_in values j) ≤ share o
fall_within_share a share values o i j steps step =
    fall_at_most (value_in values i) (value_in values j) (share o) (rw step.1 at (steps i o step.0))

-- no fall over a transition is greater than the least share of the operator's class
pub falls_within_least : (task : FiniteDomainTask) (a b : Abstraction) (classes : Classes) (shares least : List ℕ) (values : List Distance) → b ≡ a → IsAbstractionOf task a → AreClasses b classes →
    AreConsistent a (λ o. slice_index shares o) values → length shares ≡ length task.operators → AreLeast classes shares least → AreWithin b classes (value_in values) least
falls_within_least task a b classes shares least values e abs grouped steps long are j below o i c of step =
    let share : ℕ → ℕ = λ o. slice_index shares o in
    let abstracts : IsAbstractionOf task b = subst (λ (x : Abstraction). IsAbstractionOf task x) (sym e) abs in
    let consistent : AreConsistent b share values = subst (λ (x : Abstraction). AreConsistent x share values) (sym e) steps in
    let p = are.reached o c (omega (arith, long, operator_below task b o i j abstracts step)) of in
    let also = grouped.alike o p.0 c i j of p.1 below step in
    omega (arith, fall_within_share b share values p.0 i j consistent also, p.2)

-- if each number is at least the least share of its class, no decrease is greater
pub covered_full : (a : Abstraction) (classes : Classes) (value : ℕ → Distance) (least numbers : List ℕ) (n : ℕ) → AreClasses a classes → classes.count ≤ n → AreWithin a classes value least → AreFull n least numbers →
    (j : ℕ) → j < a.size → IsCoveredAt a classes value j numbers
covered_full a classes value least numbers n grouped long within full j below o i c e step =
    omega (arith, within j below o i c e step, full c (omega (arith, long, grouped.below o c e)))

-- one class more is raised to the fall over one of its transitions
module _ (a : Abstraction) (classes : Classes) (value : ℕ → Distance) (numbers : List ℕ) (c n m : ℕ) (inside : c < length numbers) (is : m ≡ max (slice_index numbers c) n) where
  pub falls_raised : AreFalls a classes value numbers → IsFallOf a classes value c n → AreFalls a classes value (slice_set numbers c m)
  falls_raised reached here p =
      ⊎_elim
      (λ (w : (p ≡ c) × (slice_index (slice_set numbers c m) p ≡ m)).
      subst (λ (x : ℕ). IsFallOf a classes value p x) (sym w.1) (subst (λ (x : ℕ). IsFallOf a classes value x m) (sym w.0) greatest))
      (λ (w : (p ≡ c → ⊥) × (slice_index (slice_set numbers c m) p ≡ slice_index numbers p)).
      subst (λ (x : ℕ). IsFallOf a classes value p x) (sym w.1) (reached p))
      (cases_set numbers c m p inside)
    where
      greatest : IsFallOf a classes value c m
      greatest = ⊎_elim
          (λ (l : slice_index numbers c < n). let e : n ≡ m = omega arith in subst (λ (x : ℕ). IsFallOf a classes value c x) e here)
          (λ (l : n ≤ slice_index numbers c). let e : slice_index numbers c ≡ m = omega arith in subst (λ (x : ℕ). IsFallOf a classes value c x) e (reached c))
          (cases_lt (slice_index numbers c) n)

  pub kept_raised : (p : ℕ) → slice_index numbers p ≤ slice_index (slice_set numbers c m) p
  kept_raised p =
      ⊎_elim
      (λ (w : (p ≡ c) × (slice_index (slice_set numbers c m) p ≡ m)). let e = ap (slice_index numbers) w.0 in omega arith)
      (λ (w : (p ≡ c → ⊥) × (slice_index (slice_set numbers c m) p ≡ slice_index numbers p)). omega arith)
      (cases_set numbers c m p inside)

  pub covered_here : n ≤ slice_index (slice_set numbers c m) c
  covered_here =
      ⊎_elim
      (λ (w : (c ≡ c) × (slice_index (slice_set numbers c m) c ≡ m)). omega arith)
      (λ (w : (c ≡ c → ⊥) × (slice_index (slice_set numbers c m) c ≡ slice_index numbers c)). absurd (w.0 refl))
      (cases_set numbers c m c inside)

-- no fall to a state of infinite value is more than 0
pub covered_infinite : (a : Abstraction) (classes : Classes) (value : ℕ → Distance) (j : ℕ) (numbers : List ℕ) → value j ≡ Infinite → IsCoveredAt a classes value j numbers
covered_infinite a classes value j numbers e o i c _ step = rw e (omega (arith, fall_to_infinite (value i)))

-- the greatest decreases of the classes are those of the operators
pub IsGreatestFall-covered : (task : FiniteDomainTask) (a : Abstraction) (classes : Classes) (value : ℕ → Distance) (numbers : List ℕ) (o n : ℕ) → IsAbstractionOf task a → AreClasses a classes →
    n ≡ share_by classes numbers o → AreFalls a classes value numbers → ((j : ℕ) → j < a.size → IsCoveredAt a classes value j numbers) → IsGreatestFall a value o n
IsGreatestFall-covered task a classes value numbers o n abs grouped is reached covered =
    subst (λ (m : ℕ). IsGreatestFall a value o m) (sym is) (go (classes.class o) refl)
  where
    above : (m : ℕ) → ((i j : ℕ) → j < a.size → LeadsTo a o i j → fall (value i) (value j) ≤ m) → (i : ℕ) → i < a.size → IfSome (a.transition i o) (λ j. fall (value i) (value j) ≤ m)
    above m each i l = at (a.transition i o) refl (abs.transitions i o l)
      where
        at : (r : Option ℕ) → a.transition i o ≡ r → IfSome r (λ j. j < a.size) → IfSome r (λ j. fall (value i) (value j) ≤ m)
        at None e below = tt
        at (Some j) e below = each i j below (l, e)

    go : (r : Option ℕ) → classes.class o ≡ r → IsGreatestFall a value o (share_by classes numbers o)
    go None e =
        let none = share_none classes numbers o e in
        record {
          upper = above (share_by classes numbers o) (λ i j below step.
              let same = ap value (grouped.others o i j e below step) in
              let zero = ap (λ (d : Distance). fall (value i) d) same in
              omega (arith, fall_itself (value i)));
          reached = inl none;
        }
    go (Some c) e =
        let told = share_told classes numbers o c e in
        record {
          upper = above (share_by classes numbers o) (λ i j below step. omega (arith, covered j below o i c e step));
          reached = subst (λ (m : ℕ). (m ≡ 0) ⊎ ((i : ℕ) × (i < a.size) × IsSomeAnd (a.transition i o) (λ j. fall (value i) (value j) ≡ m))) (sym told) (⊎_elim
              (λ (z : slice_index numbers c ≡ 0). inl z)
              (λ (w : (p i j : ℕ) × (classes.class p ≡ Some c) × (j < a.size) × LeadsTo a p i j × (fall (value i) (value j) ≡ slice_index numbers c)).
              let also = grouped.alike w.0 o c w.1 w.2 w.3 e w.4 w.5 in
              inr (w.1, also.0, rw also.1 w.6))
              (reached c));
        }

-- what is no operator has no transition
no_fall_past : (task : FiniteDomainTask) (a : Abstraction) (value : ℕ → Distance) (o : ℕ) → IsAbstractionOf task a → length task.operators ≤ o → IsGreatestFall a value o 0
no_fall_past task a value o abs l =
    record { upper = λ i below. subst (λ (r : Option ℕ). IfSome r (λ j. fall (value i) (value j) ≤ 0)) (sym (abs.operators i o l)) tt; reached = inl refl }

pub falls_told : (task : FiniteDomainTask) (a b : Abstraction) (classes : Classes) (value : ℕ → Distance) (numbers needed : List ℕ) → b ≡ a → IsAbstractionOf task a → AreClasses b classes →
    AreFalls b classes value numbers → ((j : ℕ) → j < b.size → IsCoveredAt b classes value j numbers) → length needed ≡ length task.operators →
    ((o : ℕ) → o < length task.operators → slice_index needed o ≡ share_by classes numbers o) → (o : ℕ) → IsGreatestFall a value o (slice_index needed o)
falls_told task a b classes value numbers needed e abs grouped reached covered long told o =
    ⊎_elim
    (λ (l : o < length task.operators).
    subst (λ (x : Abstraction). IsGreatestFall x value o (slice_index needed o)) e
    (IsGreatestFall-covered task b classes value numbers o (slice_index needed o) (subst (λ (x : Abstraction). IsAbstractionOf task x) (sym e) abs) grouped (told o l) reached covered))
    (λ (l : length task.operators ≤ o).
    subst (λ (n : ℕ). IsGreatestFall a value o n) (sym (get_or_past needed o 0 (omega arith))) (no_fall_past task a value o abs l))
    (cases_lt o (length task.operators))

-- the greatest decrease of an operator is that of its class
pub fall_told : (task : FiniteDomainTask) (a b : Abstraction) (classes : Classes) (value : ℕ → Distance) (numbers : List ℕ) → b ≡ a → IsAbstractionOf task a → AreClasses b classes →
    AreFalls b classes value numbers → ((j : ℕ) → j < b.size → IsCoveredAt b classes value j numbers) → (o n : ℕ) → IsGreatestFall a value o n → share_by classes numbers o ≡ n
fall_told task a b classes value numbers e abs grouped reached covered o n greatest =
    let mine : IsGreatestFall b value o (share_by classes numbers o) =
    IsGreatestFall-covered task b classes value numbers o (share_by classes numbers o) (subst (λ (x : Abstraction). IsAbstractionOf task x) (sym e) abs) grouped refl reached covered in
    fall_unique a value o (share_by classes numbers o) n (subst (λ (x : Abstraction). IsGreatestFall x value o (share_by classes numbers o)) e mine) greatest
