-- Parts of a pattern: their sizes, the digits and the index so far.
use Rattle.std.proofs.Common.{◌≡◌, ℕ, zero, suc, ◌+◌, ◌*◌, ◌/◌, ◌^◌, ◌<◌, ◌≤◌, List, [], ◌∷◌, length, take, drop, get_or, div-lt_iff_lt-mul, Some, refl, sym, ap, ◌∙◌, arith, add-one}
use Rattle.std.specs.Prelude.{slice_index, All}
use Rattle.std.proofs.lemmas.List.Elements.{All-tail, All-take, All-drop}
use Rattle.std.proofs.lemmas.List.{get_or_read, at_drop_more}
use Rattle.std.proofs.lemmas.Nat.{mul-le}
use Rattle.abstraction.specs.ProjectionLaws.{index_below}
use Rattle.fdr.specs.Tasks.{FiniteDomainTask, ranges, IsTask, IsState}
use Rattle.abstraction.specs.declared.digit.Digit.{Digit}
use Rattle.abstraction.specs.Projections.{size_of, index_of, AllExist}
use Rattle.abstraction.specs.Digits.{digits_from, digit_of, IsDigitBelow}
use Rattle.std.specs.List.Sorted.{IsStrictlyIncreasing}
use Rattle.abstraction.proofs.DigitLaws.{size_positive, digit_at, digits_below, rising_from}

-- each variable of a task has a value, so its range is not 0
pub ranges_positive : (task : FiniteDomainTask) (ps : List ℕ) → IsTask task → AllExist (ranges task) ps → All (λ p. 0 < slice_index (ranges task) p) ps
ranges_positive task ps well exist = λ k d l. omega (arith, well.initial.in_range (get_or ps k d) (exist k d l))

module _ (ranges : List ℕ) where
  pub size_more : (ps : List ℕ) (k : ℕ) → k < length ps → size_of ranges (take (suc k) ps) ≡ size_of ranges (take k ps) * slice_index ranges (get_or ps k 0)
  size_more [] k l = absurd (omega arith)
  size_more (p ∷ ps) zero l = omega arith
  size_more (p ∷ ps) (suc k) l =
      up (slice_index ranges p) (size_of ranges (take (suc k) ps)) (size_of ranges (take k ps)) (slice_index ranges (get_or ps k 0)) (size_more ps k (omega arith))
    where
      up : (r m n x : ℕ) → m ≡ n * x → r * m ≡ r * n * x
      up r m n x e = rw e (omega arith)

  pub index_more : (ps s : List ℕ) (k : ℕ) → k < length ps → index_of ranges (take (suc k) ps) s ≡ index_of ranges (take k ps) s + slice_index s (get_or ps k 0) * size_of ranges (take k ps)
  index_more [] s k l = absurd (omega arith)
  index_more (p ∷ ps) s zero l = omega arith
  index_more (p ∷ ps) s (suc k) l =
      up (slice_index s p) (slice_index ranges p) (index_of ranges (take (suc k) ps) s) (index_of ranges (take k ps) s) (slice_index s (get_or ps k 0)) (size_of ranges (take k ps)) (index_more ps s k (omega arith))
    where
      up : (y r m n x w : ℕ) → m ≡ n + x * w → y + r * m ≡ y + r * n + x * (r * w)
      up y r m n x w e = rw e (omega arith)

  -- a part of a pattern has no more abstract states
  pub size_take : (ps : List ℕ) (k : ℕ) → All (λ p. 0 < slice_index ranges p) ps → size_of ranges (take k ps) ≤ size_of ranges ps
  size_take ps zero all = size_positive ranges ps all
  size_take [] (suc k) all = omega arith
  size_take (p ∷ ps) (suc k) all =
      mul-le (slice_index ranges p) (size_of ranges (take k ps)) (slice_index ranges p) (size_of ranges ps) (omega arith)
      (size_take ps k (All-tail (λ p. 0 < slice_index ranges p) p ps all))

  pub digit_from : (ps : List ℕ) (w k : ℕ) (d : Digit) → k < length ps → get_or (digits_from ranges w ps) k d ≡ record { weight = w * size_of ranges (take k ps); range = slice_index ranges (get_or ps k 0) }
  digit_from [] w k d l = absurd (omega arith)
  digit_from (p ∷ ps) w zero d l = let one : w * 1 ≡ w = omega arith in rw one refl
  digit_from (p ∷ ps) w (suc k) d l =
      let up : w * slice_index ranges p * size_of ranges (take k ps) ≡ w * (slice_index ranges p * size_of ranges (take k ps)) = omega arith in
      rw (digit_from ps (w * slice_index ranges p) k d (omega arith), up) refl

  pub length-digits_from : (ps : List ℕ) (w : ℕ) → length (digits_from ranges w ps) ≡ length ps
  length-digits_from [] w = refl
  length-digits_from (p ∷ ps) w = ap suc (length-digits_from ps (w * slice_index ranges p))

  module _ (ps : List ℕ) (ds : List Digit) (are : ds ≡ digits_from ranges 1 ps) (increasing : IsStrictlyIncreasing ps) (k v : ℕ) (l : k < length ps) (e : slice_index ps k ≡ v) (d : Digit) (is : d ≡ get_or ds k d) where
    found_digit : d ≡ record { weight = size_of ranges (take k ps); range = slice_index ranges v }
    found_digit =
        let once : 1 * size_of ranges (take k ps) ≡ size_of ranges (take k ps) = omega arith in
        is ∙ rw (are, digit_from ps 1 k d l, once, e) refl

    -- the digit at a variable's place is the variable's
    pub found_is : Some d ≡ digit_of ranges ps v
    found_is = ap Some found_digit ∙ sym (digit_at ranges ps k v (rising_from ps increasing) l e)

    pub found_range : d.range ≡ slice_index ranges v
    found_range = ap (λ (x : Digit). x.range) found_digit

    pub found_below : All (λ p. 0 < slice_index ranges p) ps → size_of ranges ps ≤ 2 ^ 24 → IsDigitBelow (2 ^ 24) d
    found_below all small =
        let within : IsDigitBelow (size_of ranges ps) d = rw (← found_is) at (digits_below ranges ps v all) in
        record { weight = within.weight; range = within.range; within = omega (arith, within.within) }

  module _ (ps : List ℕ) (ds : List Digit) (are : ds ≡ digits_from ranges 1 ps) (k : ℕ) (l : k < length ps) (d : Digit) (is : d ≡ get_or ds k d) (s : List ℕ) (p : ℕ) (at : p ≡ get_or ps k p) where
    -- the index of one more variable
    pub index_step : index_of ranges (take (k + 1) ps) s ≡ index_of ranges (take k ps) s + slice_index s p * d.weight
    index_step =
        let once : 1 * size_of ranges (take k ps) ≡ size_of ranges (take k ps) = omega arith in
        let here_is : d ≡ record { weight = 1 * size_of ranges (take k ps); range = slice_index ranges (get_or ps k 0) } = is ∙ rw are (digit_from ps 1 k d l) in
        let weight : d.weight ≡ size_of ranges (take k ps) = ap (λ (x : Digit). x.weight) here_is ∙ once in
        let here : p ≡ get_or ps k 0 = get_or_read ps k p l at 0 in
        rw (add-one, weight, here) (index_more ps s k l)

    pub index_fits : IsState ranges s → AllExist ranges ps → All (λ p. 0 < slice_index ranges p) ps → size_of ranges ps ≤ 2 ^ 24
        → (index_of ranges (take (k + 1) ps) s < size_of ranges (take (k + 1) ps)) × (size_of ranges (take (k + 1) ps) ≤ 2 ^ 24)
    index_fits state exist all small =
        (index_below ranges s state (take (k + 1) ps) (All-take (λ v. v < length ranges) (k + 1) ps exist), omega (arith, size_take ps (k + 1) all))

-- a range that is too large for the part of the pattern before it is so for the whole
pub too_large : (ranges ps : List ℕ) (k size range : ℕ) → All (λ p. 0 < slice_index ranges p) ps → k < length ps → 0 < size
    → size * size_of ranges (drop k ps) ≡ size_of ranges ps → range ≡ slice_index ranges (get_or ps k 0) → 16777216 / size < range → 16777216 < size_of ranges ps
too_large ranges ps k size range all l some whole is h =
    let rest : 0 < size_of ranges (drop (k + 1) ps) = size_positive ranges (drop (k + 1) ps) (All-drop (λ p. 0 < slice_index ranges p) (k + 1) ps all) in
    let split : size_of ranges (drop k ps) ≡ slice_index ranges (get_or ps k 0) * size_of ranges (drop (k + 1) ps) = at_drop_more (size_of ranges) ps k 0 l in
    above size range (size_of ranges (drop (k + 1) ps)) (size_of ranges ps) some rest (rw (split, ← is) at whole) h
  where
    above : (size range tail whole : ℕ) → 0 < size → 0 < tail → size * (range * tail) ≡ whole → 16777216 / size < range → 16777216 < whole
    above size range tail whole some rest e h =
        let product : 16777216 < range * size = (div-lt_iff_lt-mul some).0 h in
        omega (arith, product, mul-le (range * size) 1 (range * size) tail (omega arith) rest)
