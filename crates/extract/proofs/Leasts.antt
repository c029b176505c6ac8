-- The least of the values of a list.
use Rattle.std.proofs.Common.{◌≡◌, ℕ, ◌+◌, ◌<◌, List, [], ◌∷◌, ◌++◌, length, map, flat_map, take, get_or, All, refl, sym, ap, ◌∙◌}
use Rattle.std.specs.Ordering.{ord_min}
use Rattle.std.proofs.lemmas.List.{take_more, map-append}
use Rattle.std.proofs.lemmas.List.Elements.{All-nil, All-cons, All-head, All-tail}
use Rattle.cost.specs.Distances.{Distance, ◌≤ᵈ◌, lesser, least, distance_cmp}
use Rattle.cost.proofs.DistanceLaws.{at_most_through, at_most_infinite, at_most_lesser, lesser_at_most_left, lesser_at_most_right, lesser_assoc, least-append, least-push, ord_min-is_lesser}

module _ {X : Type 0} (f : X → Distance) where
  least_push : (xs : List X) (x : X) → least (map f (xs ++ x ∷ [])) ≡ lesser (least (map f xs)) (f x)
  least_push xs x = ap least (map-append f xs (x ∷ [])) ∙ least-push (map f xs) (f x)

  -- one more element, as a loop takes it
  pub least_step : (xs : List X) (i : ℕ) (x : X) (a d : Distance) → i < length xs → x ≡ get_or xs i x → d ≡ f x
      → a ≡ least (map f (take i xs)) → ord_min distance_cmp a d ≡ least (map f (take (i + 1) xs))
  least_step xs i x a d lt at is before =
      ord_min-is_lesser a d
      ∙ ap (λ (b : Distance). lesser b d) before
      ∙ ap (λ (b : Distance). lesser (least (map f (take i xs))) b) (is ∙ ap f at)
      ∙ sym (ap (λ (ys : List X). least (map f ys)) (take_more xs i x lt) ∙ least_push (take i xs) (get_or xs i x))

  -- the same over what was there before
  pub least_step_over : (start : Distance) (xs : List X) (i : ℕ) (x : X) (a d : Distance) → i < length xs → x ≡ get_or xs i x → d ≡ f x
      → a ≡ lesser start (least (map f (take i xs))) → ord_min distance_cmp a d ≡ lesser start (least (map f (take (i + 1) xs)))
  least_step_over start xs i x a d lt at is before =
      ord_min-is_lesser a d
      ∙ ap (λ (b : Distance). lesser b d) before
      ∙ lesser_assoc start (least (map f (take i xs))) d
      ∙ ap (lesser start) (sym (ord_min-is_lesser (least (map f (take i xs))) d) ∙ least_step xs i x (least (map f (take i xs))) d lt at is refl)

  -- what is at most the least is at most each
  pub at_most_each : (b : Distance) (xs : List X) → b ≤ᵈ least (map f xs) → All (λ x. b ≤ᵈ f x) xs
  at_most_each b [] h = All-nil (λ x. b ≤ᵈ f x)
  at_most_each b (x ∷ xs) h =
      All-cons (λ y. b ≤ᵈ f y) x xs
      (at_most_through b (lesser (f x) (least (map f xs))) (f x) h (lesser_at_most_left (f x) (least (map f xs))))
      (at_most_each b xs
      (at_most_through b (lesser (f x) (least (map f xs))) (least (map f xs)) h (lesser_at_most_right (f x) (least (map f xs)))))

  -- and the other way round
  pub at_most_least_of : (b : Distance) (xs : List X) → All (λ x. b ≤ᵈ f x) xs → b ≤ᵈ least (map f xs)
  at_most_least_of b [] h = at_most_infinite b
  at_most_least_of b (x ∷ xs) h =
      at_most_lesser b (f x) (least (map f xs)) (All-head (λ y. b ≤ᵈ f y) x xs h)
      (at_most_least_of b xs (All-tail (λ y. b ≤ᵈ f y) x xs h))

-- the least over lists one after the other
pub least_flat : {X Y : Type 0} (f : Y → Distance) (g : X → List Y) (xs : List X) → least (map f (flat_map g xs)) ≡ least
    (map (λ x. least (map f (g x))) xs)
least_flat f g [] = refl
least_flat f g (x ∷ xs) =
    ap least (map-append f (g x) (flat_map g xs)) ∙ least-append (map f (g x)) (map f (flat_map g xs))
    ∙ ap (lesser (least (map f (g x)))) (least_flat f g xs)
