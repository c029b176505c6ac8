-- The words of rows, and the distances that they represent.
use Rattle.std.proofs.Common.{◌≡◌, ℕ, zero, suc, ◌+◌, ◌<◌, List, [], ◌∷◌, ◌++◌, map, min, max, refl, sym, ap, ◌∙◌, arith, lt-ltb, add-one}
use Rattle.std.specs.Prelude.{slice_index}
use Rattle.std.proofs.lemmas.List.{map-append}
use Rattle.std.proofs.lemmas.Grind.{common_steps}
use Rattle.cost.specs.Distances.{larger, greatest}
use Rattle.cost.proofs.DistanceLaws.{greatest-push}
use Rattle.std.proofs.Common.{length, take, get_or}
use Rattle.std.proofs.lemmas.List.Sums.{sum_by_more}
use Rattle.scp_rows.specs.Rows.{MappingRows, word_at, lane_sum, distance_below, lanes}

-- ---- the greatest word

-- the greatest of the first n words
pub top : List ℕ → ℕ → ℕ
top words zero = 0
top words (suc n) = max (top words n) (slice_index words n)

pub no_top : (words : List ℕ) → top words 0 ≡ 0
unfolding top
no_top words = refl

pub top_more : (words : List ℕ) (n : ℕ) → top words (n + 1) ≡ max (top words n) (slice_index words n)
unfolding top
top_more words n = rw add-one refl

numbers : ℕ → List ℕ
numbers zero = []
numbers (suc n) = numbers n ++ n ∷ []

larger_below : (most m n : ℕ) → distance_below most (max m n) ≡ larger (distance_below most m) (distance_below most n)
larger_below most m n = grind (arith, common_steps)

module _ (most : ℕ) (some : 0 < most) (words : List ℕ) where
  top_of : (n : ℕ) → distance_below most (top words n) ≡ greatest (map (λ lane. distance_below most (slice_index words lane)) (numbers n))
  unfolding top numbers
  top_of zero = rw (lt-ltb 0 most some) refl
  top_of (suc n) =
      larger_below most (top words n) (slice_index words n)
      ∙ ap (λ d. larger d (distance_below most (slice_index words n))) (top_of n)
      ∙ sym (ap greatest (map-append (λ lane. distance_below most (slice_index words lane)) (numbers n) (n ∷ [])) ∙ greatest-push (map (λ lane. distance_below most (slice_index words lane)) (numbers n)) (distance_below most (slice_index words n)))

  pub top_is_greatest : distance_below most (top words 8) ≡ greatest (map (λ lane. distance_below most (slice_index words lane)) lanes)
  unfolding numbers
  top_is_greatest = top_of 8

-- ---- sums

-- a sum of limited sums is limited
pub limited_more : (most a b s : ℕ) → s ≡ min a most → min (s + b) most ≡ min (a + b) most
limited_more most a b s e = omega arith

-- the row of one more mapping
pub sum_more : (most : ℕ) (state : List ℕ) (rows : List MappingRows) (place : ℕ) (p : MappingRows) → place < length rows → p ≡ get_or rows place p → (lane old new : ℕ)
    → old ≡ min (lane_sum state lane (take place rows)) most → new ≡ min (old + word_at state lane p) most
    → new ≡ min (lane_sum state lane (take (place + 1) rows)) most
sum_more most state rows place p l is lane old new before step =
    let same : word_at state lane p ≡ word_at state lane (get_or rows place p) = ap (word_at state lane) is in
    omega (arith, before, step, same, sum_by_more (word_at state lane) rows place p l)
