-- The greatest decrease of a value over an operator's transitions, and costs from which it is subtracted.
use Rattle.std.proofs.Common.{◌≡◌, ℕ, zero, suc, ◌-◌, ◌<◌, ◌≤◌, ◌^◌, List, Option, Some, None, Result, Ok, Err, refl, subst, inl, inr, ⊎_elim, arith}
use Rattle.std.specs.Prelude.{◌⊎◌, IfSome, IsSomeAnd, OnOk, OnErr, slice_index}
use Rattle.std.proofs.lemmas.Bool.{cases_lt}
use Rattle.cost.specs.Distances.{Distance}
use Rattle.abstraction.specs.Abstractions.{Abstraction}
use Rattle.pdb_walks.specs.Walks.{fall, value_in, IsGreatestFall}

module _ (a : Abstraction) (value : ℕ → Distance) (o : ℕ) where
  -- the decrease over the transition from the abstract state, if there is one, is at most this
  abbrev IsBoundAt : ℕ → ℕ → Type 0
  IsBoundAt most i = IfSome (a.transition i o) (λ j. fall (value i) (value j) ≤ most)

  -- the greatest decrease over the transitions from the first n abstract states
  record GreatestTo (n : ℕ) : Type 0 where
    most : ℕ
    upper : (i : ℕ) → i < n → IsBoundAt most i
    reached : (most ≡ 0) ⊎ ((i : ℕ) × (i < n) × IsSomeAnd (a.transition i o) (λ j. fall (value i) (value j) ≡ most))

  wider : (x y i : ℕ) → x ≤ y → IsBoundAt x i → IsBoundAt y i
  wider x y i l = go (a.transition i o)
    where
      go : (r : Option ℕ) → IfSome r (λ j. fall (value i) (value j) ≤ x) → IfSome r (λ j. fall (value i) (value j) ≤ y)
      go None h = tt
      go (Some j) h = omega (arith, h, l)

  one_more : (n most : ℕ) → ((i : ℕ) → i < n → IsBoundAt most i) → IsBoundAt most n → (i : ℕ) → i < suc n → IsBoundAt most i
  one_more n most each here i l =
      ⊎_elim
      (λ (below : i < n). each i below)
      (λ (above : n ≤ i). let e : n ≡ i = omega (arith, l, above) in subst (λ (k : ℕ). IsBoundAt most k) e here)
      (cases_lt i n)

  longer : (n : ℕ) (g : GreatestTo n) → IsBoundAt g.most n → GreatestTo (suc n)
  longer n g here =
      record {
        most = g.most;
        upper = one_more n g.most g.upper here;
        reached = ⊎_elim
            (λ (none : g.most ≡ 0). inl none)
            (λ (w : (i : ℕ) × (i < n) × IsSomeAnd (a.transition i o) (λ j. fall (value i) (value j) ≡ g.most)). inr (w.0, omega (arith, w.1), w.2))
            g.reached;
      }

  step : (n : ℕ) → GreatestTo n → (r : Option ℕ) → a.transition n o ≡ r → GreatestTo (suc n)
  step n g None e = longer n g (rw e tt)
  step n g (Some j) e =
      ⊎_elim
      (λ (l : g.most < fall (value n) (value j)). record {
        most = fall (value n) (value j);
        upper = one_more n (fall (value n) (value j)) (λ i below. wider g.most (fall (value n) (value j)) i (omega (arith, l)) (g.upper i below)) (rw e (omega arith));
        reached = inr (n, omega arith, rw e refl);
      })
      (λ (l : fall (value n) (value j) ≤ g.most). longer n g (rw e l))
      (cases_lt g.most (fall (value n) (value j)))

  greatest_to : (n : ℕ) → GreatestTo n
  greatest_to zero = record { most = 0; upper = λ i l. absurd (omega arith); reached = inl refl }
  greatest_to (suc n) = step n (greatest_to n) (a.transition n o) refl

  -- what the greatest decrease is subtracted from does not grow
  pub left_at_most : (before after : ℕ) → ((n : ℕ) → IsGreatestFall a value o n → after ≡ before - n) → after ≤ before
  left_at_most before after each =
      let g = greatest_to a.size in
      omega (arith, each g.most (record { upper = g.upper; reached = g.reached }))

-- costs from which saturated shares are subtracted, or that are unchanged, stay small
pub still_small : {T E : Type 0} (a : Abstraction) (values : List Distance) (before after : List ℕ) (result : Result T E)
    → OnOk result ((o n : ℕ) → IsGreatestFall a (value_in values) o n → slice_index after o ≡ slice_index before o - n)
    → OnErr result (after ≡ before) → ((o : ℕ) → slice_index before o < 2 ^ 31) → (o : ℕ) → slice_index after o < 2 ^ 31
still_small a values before after (Ok made) less same small o =
    omega (arith, left_at_most a (value_in values) o (slice_index before o) (slice_index after o) (less o), small o)
still_small a values before after (Err e) less same small o = rw same (small o)
