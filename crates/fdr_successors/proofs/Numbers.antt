-- The numbers of operators: which are found, and which number they are.
use Rattle.std.proofs.Common.{◌≡◌, ℕ, zero, suc, ◌+◌, ◌<◌, Bool, true, false, cond, eqb, List, [], ◌∷◌, length, get_or, refl, sym, ◌∙◌, ap, subst, arith}
use Rattle.std.specs.Prelude.{filter, slice_get, Contains}
use Rattle.std.specs.Option.{option_map_or}
use Rattle.std.specs.List.{range_with_len, sum_by}
use Rattle.std.specs.List.Sorted.{IsPermutation, IsStrictlyIncreasing}
use Rattle.std.proofs.lemmas.List.Elements.{Contains-append_right, All-contains, filter_passes}
use Rattle.std.proofs.lemmas.List.FromFn.{length-range_with_len, get_or-range_with_len}
use Rattle.std.proofs.lemmas.List.Sums.{sum_by-cons}
use Rattle.std.proofs.lemmas.List.Sorted.{sum_by-IsPermutation}
use Rattle.fdr.specs.Tasks.{FiniteDomainTask, Operator, applies, applies_at}
use Rattle.fdr_successors.specs.Applicable.{applicable_operators}
use Rattle.fdr_successors.specs.Numbers.{SameNumbers}
use Rattle.fdr_successors.proofs.Increasing.{climbing_filter, increasing_from_climbing}

-- ---- a filter of lists that have the same numbers

often_step : (b : Bool) (f : ℕ → ℕ) (x r : ℕ) (xs : List ℕ) → sum_by f xs ≡ r → sum_by f (cond b (x ∷ xs) xs) ≡ cond b (f x) 0 + r
often_step true f x r xs h = sum_by-cons f x xs ∙ ap (λ (s : ℕ). f x + s) h
often_step false f x r xs h = h ∙ omega arith

sum_by_filter : (p : ℕ → Bool) (f : ℕ → ℕ) (xs : List ℕ) → sum_by f (filter p xs) ≡ sum_by (λ x. cond (p x) (f x) 0) xs
sum_by_filter p f [] = refl
sum_by_filter p f (x ∷ xs) =
    often_step (p x) f x (sum_by (λ (y : ℕ). cond (p y) (f y) 0) xs) (filter p xs) (sum_by_filter p f xs)
    ∙ sym (sum_by-cons (λ (y : ℕ). cond (p y) (f y) 0) x xs)

pub filter_permuted : (p : ℕ → Bool) (xs ys : List ℕ) → IsPermutation xs ys → SameNumbers (filter p ys) (filter p xs)
filter_permuted p xs ys h x =
    let f : ℕ → ℕ = λ y. cond (eqb y x) 1 0 in
    sum_by_filter p f ys ∙ sum_by-IsPermutation (λ (y : ℕ). cond (p y) (f y) 0) xs ys h ∙ sym (sum_by_filter p f xs)

-- ---- membership

contains_first : (x : ℕ) (xs : List ℕ) → Contains (x ∷ xs) x
contains_first x xs = (0, omega arith, refl)

contains_later : (x y : ℕ) (xs : List ℕ) → Contains xs x → Contains (y ∷ xs) x
contains_later x y xs h = Contains-append_right (y ∷ []) xs x h

contains_kept : (b : Bool) (y x : ℕ) (xs : List ℕ) → Contains xs x → Contains (cond b (y ∷ xs) xs) x
contains_kept true y x xs h = contains_later x y xs h
contains_kept false y x xs h = h

pub contains_filter : (p : ℕ → Bool) (xs : List ℕ) (i : ℕ) → i < length xs → p (get_or xs i 0) ≡ true → Contains (filter p xs) (get_or xs i 0)
contains_filter p [] i l h = absurd (omega arith)
contains_filter p (x ∷ xs) zero l h = rw h (contains_first x (filter p xs))
contains_filter p (x ∷ xs) (suc i) l h = contains_kept (p x) x (get_or xs i 0) (filter p xs) (contains_filter p xs i (omega arith) h)

-- an operator that applies exists
exists_from : (ops : List Operator) (o : ℕ) (state : List ℕ) → option_map_or (λ op. applies op state) (slice_get ops o) false ≡ true → o < length ops
exists_from [] o state h = absurd (cc h)
exists_from (op ∷ ops) zero state h = omega arith
exists_from (op ∷ ops) (suc o) state h = omega (arith, exists_from ops o state h)

pub all_increase : (task : FiniteDomainTask) (state : List ℕ) → IsStrictlyIncreasing (applicable_operators task state)
all_increase task state = increasing_from_climbing _ (climbing_filter (λ (o : ℕ). applies_at task o state) 0 (length task.operators))

pub all_apply : (task : FiniteDomainTask) (state : List ℕ) (o : ℕ) → Contains (applicable_operators task state) o → applies_at task o state ≡ true
all_apply task state o h =
    All-contains (λ (x : ℕ). applies_at task x state ≡ true) (applicable_operators task state) o
    (filter_passes (λ (x : ℕ). applies_at task x state) (range_with_len 0 (length task.operators))) h

pub all_found : (task : FiniteDomainTask) (state : List ℕ) (o : ℕ) → applies_at task o state ≡ true → Contains (applicable_operators task state) o
all_found task state o h =
    let n = length task.operators in
    let l : o < n = exists_from task.operators o state h in
    let at : get_or (range_with_len 0 n) o 0 ≡ o = get_or-range_with_len 0 n o 0 l ∙ omega arith in
    let within : o < length (range_with_len 0 n) = rw (length-range_with_len 0 n) l in
    subst (λ (x : ℕ). Contains (applicable_operators task state) x) at
    (contains_filter (λ (x : ℕ). applies_at task x state) (range_with_len 0 n) o within
    (subst (λ (x : ℕ). applies_at task x state ≡ true) (sym at) h))
