-- Words of which some are cleared.
use Rattle.std.proofs.Common.{◌≡◌, ℕ, ◌+◌, Bool, true, false, List, [], ◌∷◌, ◌++◌, length, refl, sym, ap, ◌∙◌, arith, if◌then◌else◌, length-set}
use Rattle.std.specs.Prelude.{slice_index, slice_set, fold, sum, take}
use Rattle.std.specs.List.{range_with_len}
use Rattle.std.proofs.lemmas.List.{map-id}
use Rattle.std.proofs.lemmas.List.FromFn.{map-range_with_len_more}
use Rattle.std.proofs.lemmas.List.Sums.{fold_push}
use Rattle.fdr.specs.Tasks.{FiniteDomainTask, ranges}
use Rattle.packed_spread.specs.Projections.{is_among, cleared, cleared_unless, projected, projected_words, projection}
use Rattle.packed_spread.specs.Spreads.{splitmix_words}
use Rattle.packed_spread.proofs.Drawing.{words_count}

-- ---- one number more

numbers_more : (n : ℕ) → range_with_len 0 (n + 1) ≡ range_with_len 0 n ++ n ∷ []
numbers_more n =
    sym (map-id (range_with_len 0 (n + 1))) ∙ map-range_with_len_more (λ (k : ℕ). k) 0 n n (omega arith)
    ∙ ap (λ (ks : List ℕ). ks ++ n ∷ []) (map-id (range_with_len 0 n))

pub fold_to : {B : Type 0} (f : B → ℕ → B) (a : B) (n : ℕ) → fold f a (range_with_len 0 (n + 1)) ≡ f (fold f a (range_with_len 0 n)) n
fold_to f a n = ap (λ (ks : List ℕ). fold f a ks) (numbers_more n) ∙ fold_push f a (range_with_len 0 n) n

-- ---- no word is lost

kept_long : (f : List ℕ → ℕ → List ℕ) → ((words : List ℕ) (x : ℕ) → length (f words x) ≡ length words)
    → (words xs : List ℕ) → length (fold f words xs) ≡ length words
kept_long f keeps words [] = refl
kept_long f keeps words (x ∷ xs) = kept_long f keeps (f words x) xs ∙ keeps words x

cleared_long : (words : List ℕ) (first count : ℕ) → length (cleared words first count) ≡ length words
cleared_long words first count =
    kept_long (λ ws value. slice_set ws (first + value) 0) (λ ws value. length-set ws (first + value) 0) words (range_with_len 0 count)

pub cleared_unless_long : (rs chosen words : List ℕ) (v : ℕ) → length (cleared_unless rs chosen words v) ≡ length words
cleared_unless_long rs chosen words v = at (is_among chosen v) (cleared words (sum (take v rs)) (slice_index rs v)) (cleared_long words (sum (take v rs)) (slice_index rs v))
  where
    at : (b : Bool) (others : List ℕ) → length others ≡ length words → length (if b then words else others) ≡ length words
    at true others same = refl
    at false others same = same

projected_long : (rs chosen words : List ℕ) → length (projected rs chosen words) ≡ length words
projected_long rs chosen words = kept_long (cleared_unless rs chosen) (cleared_unless_long rs chosen) words (range_with_len 0 (length rs))

pub drawn_long : (task : FiniteDomainTask) → length (splitmix_words 1 (sum (ranges task))) ≡ sum (ranges task)
drawn_long task = words_count (sum (ranges task)) 1

pub projected_words_long : (task : FiniteDomainTask) → length (projected_words task) ≡ sum (ranges task)
projected_words_long task = projected_long (ranges task) (projection task) (splitmix_words 1 (sum (ranges task))) ∙ drawn_long task
