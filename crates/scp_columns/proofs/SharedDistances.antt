-- Distances under other costs.
use Rattle.std.proofs.Common.{◌≡◌, ℕ, ◌+◌, ◌≤◌, ◌<◌, Bool, true, false, List, [], ◌∷◌, Option, Some, None, refl, subst, arith, cond}
use Rattle.std.specs.Prelude.{IfSome, sum_by}
use Rattle.std.proofs.lemmas.List.Sums.{sum_by-cons}
use Rattle.cost.specs.Distances.{Distance, Finite, Infinite, ◌≤ᵈ◌, ◌+ᵈ◌}
use Rattle.fdr.specs.Tasks.{FiniteDomainTask}
use Rattle.abstraction.specs.Abstractions.{Abstraction, Table, IsAbstractionOf, IsConsistent}
use Rattle.pdb_walks.specs.Walks.{IsWalkFrom, IsTotalFrom, HasDistances, IsSaturated}
use Rattle.pdb_walks.proofs.Saturation.{distances_consistent, saturated_consistent}

-- a value that a step lowers by at most x is at most x and what bounds the value behind the step
step_below : (d e : Distance) (share x n : ℕ) → d ≤ᵈ Finite share +ᵈ e → share ≤ x → e ≤ᵈ Finite n → d ≤ᵈ Finite (x + n)
step_below Infinite Infinite share x n h l k = absurd k
step_below Infinite (Finite e) share x n h l k = absurd h
step_below (Finite d) Infinite share x n h l k = absurd k
step_below (Finite d) (Finite e) share x n h l k = omega (arith, h, l, k)

-- a total that is one of the walks' and at most a distance is that distance
total_is : (n m : ℕ) → Finite n ≤ᵈ Finite m → m ≤ n → m ≡ n
total_is n m h l = omega (arith, h, l)

-- The values of a table are its distances under some costs. They are those under others as well where these are at least the
-- saturated shares, and at most the former for operators that touch the abstraction: a walk of least cost needs no other.
module _ (task : FiniteDomainTask) (t : Table) (abs : IsAbstractionOf task t.abstraction) (made left : ℕ → ℕ)
    (exact : HasDistances t made) (saturated : IsSaturated t)
    (enough : (o : ℕ) → t.share o ≤ left o) (no_more : (o : ℕ) → t.abstraction.touches o ≡ true → left o ≤ made o) where
  abbrev a : Abstraction
  a = t.abstraction

  consistent : IsConsistent t
  consistent = saturated_consistent t made saturated (distances_consistent task (record t { share = made }) abs exact)

  -- a step, with what bounds the value behind it
  one_step : (i o : ℕ) (os : List ℕ) (r : Option ℕ) → a.transition i o ≡ r → IfSome r (λ j. j < a.size) → IfSome r (λ j. t.value i ≤ᵈ Finite (t.share o) +ᵈ t.value j)
      → ((j : ℕ) → j < a.size → IsWalkFrom a j os → t.value j ≤ᵈ Finite (sum_by left os)) → IsWalkFrom a i (o ∷ os) → t.value i ≤ᵈ Finite (left o + sum_by left os)
  one_step i o os None e below falls behind along = absurd (rw e at along)
  one_step i o os (Some j) e below falls behind along = step_below (t.value i) (t.value j) (t.share o) (left o) (sum_by left os) falls (enough o) (behind j below (rw e at along))

  -- every walk costs at least the value
  least : (i : ℕ) → i < a.size → (os : List ℕ) → IsWalkFrom a i os → t.value i ≤ᵈ Finite (sum_by left os)
  least i l [] goal = rw (consistent.goals i l goal) (omega arith)
  least i l (o ∷ os) along =
      rw (sum_by-cons left o os) (one_step i o os (a.transition i o) refl (abs.transitions i o l) (consistent.steps i o l) (λ j below. least j below os) along)

  -- the operators that touch the abstraction
  abbrev touching : List ℕ → List ℕ
  touching [] = []
  touching (o ∷ os) = cond (a.touches o) (o ∷ touching os) (touching os)

  -- an operator that does not touch the abstraction can be left out
  one_fewer : (i o : ℕ) (os rest : List ℕ) → i < a.size → (r : Option ℕ) → a.transition i o ≡ r → IfSome r (λ j. j < a.size)
      → ((j : ℕ) → j < a.size → IsWalkFrom a j os → IsWalkFrom a j rest) → IsWalkFrom a i (o ∷ os) → (b : Bool) → a.touches o ≡ b → IsWalkFrom a i (cond b (o ∷ rest) rest)
  one_fewer i o os rest l None e below behind along b touch = absurd (rw e at along)
  one_fewer i o os rest l (Some j) e below behind along true touch = rw e (behind j below (rw e at along))
  one_fewer i o os rest l (Some j) e below behind along false touch =
      let stays : j ≡ i = rw e at (abs.untouched i o l touch) in
      subst (λ k. IsWalkFrom a k rest) stays (behind j below (rw e at along))

  -- without the others the walk ends where it ended
  same_end : (i : ℕ) → i < a.size → (os : List ℕ) → IsWalkFrom a i os → IsWalkFrom a i (touching os)
  same_end i l [] along = along
  same_end i l (o ∷ os) along =
      one_fewer i o os (touching os) l (a.transition i o) refl (abs.transitions i o l) (λ j below. same_end j below os) along (a.touches o) refl

  -- and it costs no more
  with_one : (o : ℕ) (os rest : List ℕ) → sum_by left rest ≤ sum_by made os → (b : Bool) → a.touches o ≡ b → sum_by left (cond b (o ∷ rest) rest) ≤ sum_by made (o ∷ os)
  with_one o os rest l true touch = omega (arith, sum_by-cons left o rest, sum_by-cons made o os, no_more o touch, l)
  with_one o os rest l false touch = omega (arith, sum_by-cons made o os, l)

  no_dearer : (os : List ℕ) → sum_by left (touching os) ≤ sum_by made os
  no_dearer [] = omega arith
  no_dearer (o ∷ os) = with_one o os (touching os) (no_dearer os) (a.touches o) refl

  reached : (i : ℕ) → i < a.size → (d : Distance) → t.value i ≡ d → IsTotalFrom a made i d → IsTotalFrom a left i d
  reached i l Infinite is total = tt
  reached i l (Finite n) is total =
      let walk = same_end i l total.0 total.1 in
      (touching total.0, walk, total_is n (sum_by left (touching total.0)) (rw is at (least i l (touching total.0) walk)) (omega (arith, no_dearer total.0, total.2)))

  pub same_distances : HasDistances t left
  same_distances i l = record { least = least i l; reached = reached i l (t.value i) refl (exact i l).reached }
