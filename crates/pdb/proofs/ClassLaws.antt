-- Distances under the least shares of classes are those under the shares of the operators.
use Rattle.std.proofs.Common.{◌≡◌, ℕ, ◌<◌, ◌≤◌, true, List, [], ◌∷◌, length, Option, Some, None, slice_index, refl, sym, subst, ⊎_elim, arith}
use Rattle.std.specs.Prelude.{sum_by, IfSome, IsSomeAnd, option_and_then}
use Rattle.std.proofs.lemmas.Bool.{cases_lt}
use Rattle.std.proofs.lemmas.List.Sums.{sum_by-cons}
use Rattle.cost.specs.Distances.{Distance, Finite, Infinite, ◌≤ᵈ◌}
use Rattle.fdr.specs.Tasks.{FiniteDomainTask}
use Rattle.abstraction.specs.Abstractions.{Abstraction, IsAbstractionOf}
use Rattle.pdb_walks.specs.Walks.{walk, IsWalkFrom, IsTotalFrom, IsDistanceFrom, AreDistances, value_in}
use Rattle.abstraction_groups.specs.Entrances.{LeadsTo, Classes, AreClasses}
use Rattle.pdb.specs.Classes.{share_by, AreLeast}
use Rattle.pdb.proofs.Expansion.{share_told, share_none}

-- only operators of the task have transitions
pub operator_below : (task : FiniteDomainTask) (a : Abstraction) (o i j : ℕ) → IsAbstractionOf task a → LeadsTo a o i j → o < length task.operators
operator_below task a o i j abs step =
    ⊎_elim (λ (l : o < length task.operators). l) (λ (l : length task.operators ≤ o). let none = abs.operators i o l in let some = step.1 in absurd (cc)) (cases_lt o (length task.operators))

at_most_more : (d : Distance) (m n : ℕ) → m ≤ n → d ≤ᵈ Finite m → d ≤ᵈ Finite n
at_most_more Infinite m n l h = absurd h
at_most_more (Finite k) m n l h = omega arith

module _ (task : FiniteDomainTask) (a : Abstraction) (classes : Classes) (shares least : List ℕ) (abs : IsAbstractionOf task a) (grouped : AreClasses a classes)
    (long : length shares ≡ length task.operators) (are : AreLeast classes shares least) where
  abbrev share : ℕ → ℕ
  share o = slice_index shares o

  abbrev by_class : ℕ → ℕ
  by_class o = share_by classes least o

  -- a step costs its class at most as much as itself
  step_at_most : (o i j : ℕ) → LeadsTo a o i j → by_class o ≤ share o
  step_at_most o i j step = go (classes.class o) refl
    where
      go : (r : Option ℕ) → classes.class o ≡ r → by_class o ≤ share o
      go None e = omega (arith, share_none classes least o e)
      go (Some c) e = omega (arith, share_told classes least o c e, are.at_most o c (omega (arith, operator_below task a o i j abs step)) e)

  walk_at_most : (os : List ℕ) (i : ℕ) → i < a.size → IsWalkFrom a i os → sum_by by_class os ≤ sum_by share os
  walk_at_most [] i l w = omega arith
  walk_at_most (o ∷ os) i l w = go (walk_at_most os) (a.transition i o) refl (abs.transitions i o l) w
    where
      go : ((j : ℕ) → j < a.size → IsWalkFrom a j os → sum_by by_class os ≤ sum_by share os) → (r : Option ℕ) → a.transition i o ≡ r → IfSome r (λ j. j < a.size) → IsSomeAnd (option_and_then (λ j. walk a j os) r) (λ j. a.is_goal j ≡ true) →
          sum_by by_class (o ∷ os) ≤ sum_by share (o ∷ os)
      go rest None e below w = absurd w
      go rest (Some j) e below w = omega (arith, sum_by-cons by_class o os, sum_by-cons share o os, step_at_most o i j (l, e), rest j below w)

  -- a walk of the cheapest operators of the classes
  cheapest : (os : List ℕ) (i : ℕ) → i < a.size → IsWalkFrom a i os → IsTotalFrom a share i (Finite (sum_by by_class os))
  cheapest [] i l w = ([], w, refl)
  cheapest (o ∷ os) i l w = go (cheapest os) (a.transition i o) refl (abs.transitions i o l) w
    where
      total : ℕ
      total = sum_by by_class (o ∷ os)

      put : (j : ℕ) → LeadsTo a o i j → j < a.size → IsTotalFrom a share j (Finite (sum_by by_class os)) → (r : Option ℕ) → classes.class o ≡ r → IsTotalFrom a share i (Finite total)
      put j step below rest None e =
          let same : j ≡ i = sym (grouped.others o i j e below step) in
          let none = share_none classes least o e in
          let sum : sum_by by_class os ≡ total = omega (arith, sum_by-cons by_class o os) in
          subst (λ (x : ℕ). IsTotalFrom a share x (Finite total)) same (subst (λ (n : ℕ). IsTotalFrom a share j (Finite n)) sum rest)
      put j step below rest (Some c) e =
          let p = are.reached o c (omega (arith, operator_below task a o i j abs step)) e in
          let also = grouped.alike o p.0 c i j e p.1 below step in
          (p.0 ∷ rest.0, rw also.1 rest.1, omega (arith, sum_by-cons share p.0 rest.0, rest.2, p.2, share_told classes least o c e, sum_by-cons by_class o os))

      go : ((j : ℕ) → j < a.size → IsWalkFrom a j os → IsTotalFrom a share j (Finite (sum_by by_class os))) → (r : Option ℕ) → a.transition i o ≡ r → IfSome r (λ j. j < a.size) →
          IsSomeAnd (option_and_then (λ j. walk a j os) r) (λ j. a.is_goal j ≡ true) → IsTotalFrom a share i (Finite total)
      go rest None e below w = absurd w
      go rest (Some j) e below w = put j (l, e) below (rest j below w) (classes.class o) refl

  distance_told : (i : ℕ) → i < a.size → (d : Distance) → IsDistanceFrom a by_class i d → IsDistanceFrom a share i d
  distance_told i l d told =
      record { least = λ os w. at_most_more d (sum_by by_class os) (sum_by share os) (walk_at_most os i l w) (told.least os w); reached = go d told.reached }
    where
      go : (d : Distance) → IsTotalFrom a by_class i d → IsTotalFrom a share i d
      go Infinite h = tt
      go (Finite n) h = subst (λ (m : ℕ). IsTotalFrom a share i (Finite m)) h.2 (cheapest h.0 i l h.1)

  -- distances under the least shares of the classes are those under the shares
  pub AreDistances-least : (values : List Distance) → AreDistances a by_class values → AreDistances a share values
  AreDistances-least values found = record { as_long = found.as_long; exact = λ i l. distance_told i l (value_in values i) (found.exact i l) }
