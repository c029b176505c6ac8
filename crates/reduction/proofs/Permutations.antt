-- Numbers in another order.
use Rattle.std.proofs.Common.{◌≡◌, ℕ, ◌<◌, ◌≤◌, List, [], ◌∷◌, length, map, Option, refl, sym, ap, subst, ◌∙◌, arith}
use Rattle.std.specs.Prelude.{◌↔◌, All, Contains, slice_index}
use Rattle.std.specs.List.{range_with_len, cons_option}
use Rattle.std.specs.List.Sorted.{IsPermutation}
use Rattle.std.proofs.lemmas.List.{length-map}
use Rattle.std.proofs.lemmas.List.FromFn.{fill_by_all, get_or-range_with_len, length-range_with_len}
use Rattle.std.proofs.lemmas.List.Elements.{All-head, All-tail}
use Rattle.std.proofs.lemmas.List.Sorted.{IsPermutation-sym, IsPermutation-map, All-permutation, Contains-permutation, length_permutation}
use Rattle.fdr.specs.Tasks.{FiniteDomainTask, Operator}
use Rattle.reduction_classes.specs.Reduced.{reduced_operator, chosen}
use Rattle.reduction.specs.Retained.{AreListedOnce}
use Rattle.reduction.specs.Reductions.{retained_task}
use Rattle.reduction.proofs.GroupLaws.{has_element, increasing_few}

-- ---- the same numbers

pub same_members : (xs ys : List ℕ) → IsPermutation xs ys → (n : ℕ) → Contains ys n ↔ Contains xs n
same_members xs ys moved n = (Contains-permutation ys xs n (IsPermutation-sym xs ys moved), Contains-permutation xs ys n moved)

-- of numbers in another order the same ones are listed as of those that were read
pub moved_members : (best read ascending given moved : List ℕ) → read ≡ best → given ≡ ascending → ((n : ℕ) → Contains ascending n ↔ Contains read n) → IsPermutation given moved → (n : ℕ) → Contains moved n ↔ Contains best n
moved_members best read ascending given moved is_read is_given same is n =
    let among = subst (λ (xs : List ℕ). Contains moved n ↔ Contains xs n) is_given (same_members given moved is n) in
    let listed = subst (λ (xs : List ℕ). Contains ascending n ↔ Contains xs n) is_read (same n) in
    (λ h. listed.0 (among.0 h), λ h. among.1 (listed.1 h))

-- numbers below n that are listed once are at most n
pub once_few : (xs : List ℕ) (n : ℕ) → AreListedOnce xs → All (λ x. x < n) xs → length xs ≤ n
once_few xs n once all =
    let few = increasing_few once.0 n once.1 (All-permutation (λ x. x < n) xs once.0 (IsPermutation-sym once.0 xs once.2) all) in
    omega (arith, few, length_permutation once.0 xs once.2)

-- ---- numbers by their indices

-- indices in another order lead to the numbers in another order
pub read_in_order : (numbers order made : List ℕ) → IsPermutation (range_with_len 0 (length numbers)) order → made ≡ map (slice_index numbers) order → IsPermutation numbers made
read_in_order numbers order made moved e =
    subst (λ (xs : List ℕ). IsPermutation xs made) (sym (fill_by_all (slice_index numbers) numbers (length numbers) 0 refl (λ k l. refl)))
    (subst (IsPermutation (map (slice_index numbers) (range_with_len 0 (length numbers)))) (sym e) (IsPermutation-map (slice_index numbers) (range_with_len 0 (length numbers)) order moved))

-- indices in another order exist
pub places_exist : (n : ℕ) (order : List ℕ) → IsPermutation (range_with_len 0 n) order → All (λ k. k < n) order
places_exist n order moved = All-permutation (λ k. k < n) (range_with_len 0 n) order moved below
  where
    below : All (λ k. k < n) (range_with_len 0 n)
    below k d l =
        let within : k < n = omega (arith, l, length-range_with_len 0 n) in
        omega (arith, within, get_or-range_with_len 0 n k d within)

-- ---- operators

length-chosen : (ops : List Operator) (ns : List ℕ) → All (λ n. n < length ops) ns → length (chosen ops ns) ≡ length ns
length-chosen ops [] all = refl
length-chosen ops (n ∷ ns) all =
    let here = has_element ops n (All-head (λ m. m < length ops) n ns all) in
    let rest = length-chosen ops ns (All-tail (λ m. m < length ops) n ns all) in
    let same = ap (λ (r : Option Operator). length (cons_option r (chosen ops ns))) here.1 in
    omega (arith, same, rest)

-- the reduced task has as many operators as numbers
pub retained_count : (task : FiniteDomainTask) (classes : List (List ℕ)) (retained : List ℕ) → All (λ o. o < length task.operators) retained → length (retained_task task classes retained).operators ≡ length retained
retained_count task classes retained exist = length-map (chosen task.operators retained) (reduced_operator classes) ∙ length-chosen task.operators retained exist
