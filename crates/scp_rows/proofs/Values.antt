-- Sums and greatest values of tables.
use Rattle.std.proofs.Common.{◌≡◌, ℕ, ◌+◌, ◌*◌, ◌^◌, ◌<◌, ◌≤◌, List, map, length, get_or, take, sym, ap, ◌∙◌, arith, Option, Some, None}
use Rattle.std.specs.Option.{SomeIff}
use Rattle.std.proofs.lemmas.Option.{same_Some}
use Rattle.std.proofs.lemmas.List.{take_all}
use Rattle.std.proofs.lemmas.Simd.{map-map}
use Rattle.abstraction.specs.Abstractions as abstraction
use Rattle.std.proofs.lemmas.List.{get_or-map, length-map}
use Rattle.cost.specs.Distances.{Distance, Finite, Infinite, ◌+ᵈ◌, IsWithin, total, greatest, larger}
use Rattle.cost.proofs.DistanceLaws.{total_more, greatest_more}

pub sum_within : (d e : Distance) (i : ℕ) → IsWithin (i * 2 ^ 55) d → IsWithin (2 ^ 55) e → IsWithin ((i + 1) * 2 ^ 55) (d +ᵈ e)
sum_within Infinite e i h k = tt
sum_within (Finite m) Infinite i h k = tt
sum_within (Finite m) (Finite n) i h k = omega arith

module _ {X : Type 0} (f : X → Distance) (xs : List X) (i : ℕ) (x : X) (l : i < length xs) (is : x ≡ get_or xs i x) where
  at_place : f x ≡ get_or (map f xs) i (f x)
  at_place = sym (get_or-map f xs i x (f x) l ∙ ap f (sym is))

  within : i < length (map f xs)
  within = omega (arith, l, length-map xs f)

  pub total_with : total (take (i + 1) (map f xs)) ≡ total (take i (map f xs)) +ᵈ f x
  total_with = total_more (map f xs) i (f x) within at_place

  pub greatest_with : greatest (take (i + 1) (map f xs)) ≡ larger (greatest (take i (map f xs))) (f x)
  greatest_with = greatest_more (map f xs) i (f x) within at_place

pub some_value : {X : Type 0} (r : Option X) (P : Type 0) (v w : X) → SomeIff r P v → r ≡ Some w → w ≡ v
some_value None P v w h e = cc e
some_value (Some x) P v w h e = sym (same_Some x w e) ∙ h.1

module _ {X : Type 0} (f : abstraction.Table → Distance) (g : X → abstraction.Table) (xs : List X) (n : ℕ) (whole : length xs ≤ n) where
  whole_list : take n (map (λ x. f (g x)) xs) ≡ map f (map g xs)
  whole_list = take_all n (map (λ x. f (g x)) xs) (omega (arith, whole, length-map xs (λ x. f (g x)))) ∙ sym (map-map f g xs)

  pub whole_total : total (take n (map (λ x. f (g x)) xs)) ≡ total (map f (map g xs))
  whole_total = ap total whole_list

module _ {X : Type 0} (f : List abstraction.Table → Distance) (g : X → List abstraction.Table) (xs : List X) (n : ℕ) (whole : length xs ≤ n) where
  pub whole_greatest : greatest (take n (map (λ x. f (g x)) xs)) ≡ greatest (map f (map g xs))
  whole_greatest = ap greatest (take_all n (map (λ x. f (g x)) xs) (omega (arith, whole, length-map xs (λ x. f (g x)))) ∙ sym (map-map f g xs))
