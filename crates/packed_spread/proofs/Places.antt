-- The places of variables' words.
use Rattle.std.proofs.Common.{◌≡◌, ℕ, ◌+◌, ◌<◌, ◌≤◌, List, [], ◌∷◌, ◌++◌, length, map, take, sym, ap, ◌∙◌, arith}
use Rattle.std.specs.Prelude.{slice_index, sum, fold, bit_xor, All}
use Rattle.std.specs.List.{range_with_len}
use Rattle.std.proofs.lemmas.List.FromFn.{get_or-map-range_with_len, map-range_with_len_more, length-map-range_with_len}
use Rattle.std.proofs.lemmas.List.Sums.{sum_by_more, sum_by_more_le, fold_push}
use Rattle.std.proofs.lemmas.List.Elements.{All-weaker}
use Rattle.fdr.specs.declared.fact.Fact.{Fact}
use Rattle.fdr.specs.Tasks.{IsState, IsInRange}
use Rattle.packed_spread.specs.Spreads.{firsts_of, word_of}

-- the first places of the first n variables
abbrev pub firsts_below : List ℕ → ℕ → List ℕ
firsts_below ranges n = map (λ v. sum (take v ranges)) (range_with_len 0 n)

pub firsts_count : (ranges : List ℕ) → length (firsts_of ranges) ≡ length ranges
firsts_count ranges = length-map-range_with_len (λ (v : ℕ). sum (take v ranges)) 0 (length ranges)

-- a variable's words follow those before
pub count_more : (ranges : List ℕ) (v old new range : ℕ) → v < length ranges →
    old ≡ sum (take v ranges) → range ≡ slice_index ranges v → new ≡ old + range → new ≡ sum (take (v + 1) ranges)
count_more ranges v old new range exists here this more =
    let step : sum (take (v + 1) ranges) ≡ sum (take v ranges) + slice_index ranges v =
    sum_by_more (λ (x : ℕ). x) ranges v 0 exists in
    omega arith

pub firsts_more : (ranges : List ℕ) (v first : ℕ) (old new : List ℕ) → old ≡ firsts_below ranges v → first ≡ sum (take v ranges) →
    new ≡ old ++ first ∷ [] → new ≡ firsts_below ranges (v + 1)
firsts_more ranges v first old new before here more =
    more ∙ ap (λ (xs : List ℕ). xs ++ first ∷ []) before ∙ ap (λ (x : ℕ). firsts_below ranges v ++ x ∷ []) here
    ∙ sym (map-range_with_len_more (λ (w : ℕ). sum (take w ranges)) 0 v v (omega arith))

-- one variable more in the hash
pub hash_more : (words firsts state : List ℕ) (v : ℕ) →
    fold bit_xor 0 (map (word_of words firsts state) (range_with_len 0 (v + 1)))
    ≡ bit_xor (fold bit_xor 0 (map (word_of words firsts state) (range_with_len 0 v))) (word_of words firsts state v)
hash_more words firsts state v =
    let f : ℕ → ℕ = λ w. word_of words firsts state w in
    ap (λ (xs : List ℕ). fold bit_xor 0 xs) (map-range_with_len_more f 0 v v (omega arith))
    ∙ fold_push bit_xor 0 (map f (range_with_len 0 v)) (f v)

pub as_many_firsts : (ranges firsts state : List ℕ) → firsts ≡ firsts_of ranges → IsState ranges state →
    length firsts ≡ length state
as_many_firsts ranges firsts state placed is = ap (λ (xs : List ℕ). length xs) placed ∙ firsts_count ranges ∙ sym is.as_long

pub first_is : (ranges firsts : List ℕ) → firsts ≡ firsts_of ranges → (v : ℕ) → v < length ranges → slice_index firsts v ≡ sum (take v ranges)
first_is ranges firsts placed v there =
    ap (λ (xs : List ℕ). slice_index xs v) placed
    ∙ get_or-map-range_with_len (λ (w : ℕ). sum (take w ranges)) 0 (length ranges) v v 0 there (omega arith)

-- the words of a variable are there
pub words_exist : (ranges words firsts : List ℕ) → length words ≡ sum ranges → firsts ≡ firsts_of ranges →
    (v : ℕ) → v < length ranges → slice_index firsts v + slice_index ranges v ≤ length words
words_exist ranges words firsts long placed v there =
    omega (arith, long, first_is ranges firsts placed v there, sum_by_more_le (λ (x : ℕ). x) ranges v 0 there)

-- the word of a value of a variable is there
place_exists : (ranges words firsts : List ℕ) → length words ≡ sum ranges → firsts ≡ firsts_of ranges →
    (v value : ℕ) → v < length ranges → value < slice_index ranges v → slice_index firsts v + value < length words
place_exists ranges words firsts long placed v value there below = omega (arith, words_exist ranges words firsts long placed v there)

-- the words of a state's values are there
pub word_exists : (ranges words firsts state : List ℕ) → length words ≡ sum ranges → firsts ≡ firsts_of ranges →
    IsState ranges state → (v : ℕ) → v < length firsts → slice_index firsts v + slice_index state v < length words
word_exists ranges words firsts state long placed is v exists =
    let there : v < length ranges = omega (arith, as_many_firsts ranges firsts state placed is, is.as_long) in
    place_exists ranges words firsts long placed v (slice_index state v) there (is.in_range v there)

-- and so are those of facts' values
pub words_of_facts_exist : (ranges words firsts : List ℕ) (facts : List Fact) → length words ≡ sum ranges → firsts ≡ firsts_of ranges →
    All (IsInRange ranges) facts → All (λ f. (f.variable < length firsts) × (slice_index firsts f.variable + f.value < length words)) facts
words_of_facts_exist ranges words firsts facts long placed in_range =
    let as_many : length firsts ≡ length ranges = ap (λ (xs : List ℕ). length xs) placed ∙ firsts_count ranges in
    All-weaker (IsInRange ranges) (λ f. (f.variable < length firsts) × (slice_index firsts f.variable + f.value < length words))
    (λ f ok. (omega (arith, as_many, ok.0), place_exists ranges words firsts long placed f.variable f.value ok.0 ok.1)) facts in_range
