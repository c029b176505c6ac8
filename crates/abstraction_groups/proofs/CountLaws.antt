-- The number of transitions of groups grows with each operator, and is small.
use Rattle.std.proofs.Common.{◌≡◌, ℕ, ◌*◌, ◌^◌, ◌<◌, ◌≤◌, Bool, true, false, List, [], ◌∷◌, ◌++◌, length, map, take, drop, get_or, cond, Some, sym, ap, ◌∙◌, subst, arith}
use Rattle.std.specs.Prelude.{All, fold, slice_get}
use Rattle.std.specs.List.{list_any}
use Rattle.std.proofs.lemmas.List.{get_or_default, take-append-drop, length-map, take-map}
use Rattle.std.proofs.lemmas.List.Sums.{fold-append, sum_by-le}
use Rattle.std.proofs.lemmas.List.Elements.{All-map}
use Rattle.std.proofs.lemmas.Nat.{mul-le}
use Rattle.std.proofs.lemmas.Option.{slice_get-get_or, slice_get_past, slice_get_within, get_or_from_slice_get}
use Rattle.fdr.specs.Tasks.{FiniteDomainTask}
use Rattle.abstraction.specs.declared.digit.Digit.{Digit}
use Rattle.abstraction.specs.Abstractions.{Abstraction}
use Rattle.abstraction_groups.specs.declared.change.Change.{Change}
use Rattle.abstraction_groups.specs.Changes.{at_digits, pair_count, same, moves, with_row, with_changes, distinct_moves}
use Rattle.abstraction_groups.specs.Collected.{count_in, changes_by_number}
use Rattle.abstraction_groups.specs.Factors.{Factors, IsFactored, digits_of, group_changes, transition_count}
use Rattle.abstraction_groups.specs.Pairs.{IsRow}
use Rattle.abstraction_groups.proofs.AffectingLaws.{operator_at, changes_at}
use Rattle.abstraction_groups.proofs.CollectLaws.{count_with}
use Rattle.abstraction_groups.proofs.GroupRows.{rows_from, rows_short, operator_row, groups_few, group_row}
use Rattle.abstraction_groups.proofs.RowSums.{count_within}

-- ---- more operators

module _ (digits : List Digit) where
  count_row : (rows : List (List Change)) (cs : List Change) → count_in digits rows ≤ count_in digits (with_row rows cs)
  count_row rows cs = go (list_any (same cs) rows)
    where
      go : (b : Bool) → count_in digits rows ≤ count_in digits (cond b rows (rows ++ cs ∷ []))
      go true = omega arith
      go false = omega (arith, count_with digits rows cs)

  count_changes : (rows : List (List Change)) (cs : List Change) → count_in digits rows ≤ count_in digits (with_changes rows cs)
  count_changes rows cs = go (moves cs)
    where
      go : (b : Bool) → count_in digits rows ≤ count_in digits (cond b (with_row rows cs) rows)
      go true = count_row rows cs
      go false = omega arith

  count_all : (all rows : List (List Change)) → count_in digits rows ≤ count_in digits (fold with_changes rows all)
  count_all [] rows = omega arith
  count_all (cs ∷ all) rows = let one = count_changes rows cs in let rest = count_all all (with_changes rows cs) in omega arith

  pub count_first : (all : List (List Change)) (n : ℕ) → count_in digits (distinct_moves (take n all)) ≤ count_in digits (distinct_moves all)
  count_first all n =
      let whole : distinct_moves all ≡ fold with_changes (distinct_moves (take n all)) (drop n all) =
      ap distinct_moves (sym (take-append-drop n all)) ∙ fold-append with_changes [] (take n all) (drop n all) in
      let more = count_all (drop n all) (distinct_moves (take n all)) in
      let same : count_in digits (distinct_moves all) ≡ count_in digits (fold with_changes (distinct_moves (take n all)) (drop n all)) = ap (count_in digits) whole in
      omega arith

  -- each group has at most as many transitions as there are abstract states
  pub count_few : (rows : List (List Change)) → All (λ cs. IsRow (at_digits digits cs)) rows → count_in digits rows ≤ length rows * 2 ^ 24
  count_few rows are =
      sum_by-le (λ (cs : List Change). pair_count (at_digits digits cs)) (2 ^ 24) rows
      (λ k d l. let row = are k d l in let within = count_within (at_digits digits (get_or rows k d)) row.fit in let small = row.small in omega arith)

-- ---- the groups of some operators

module _ (task : FiniteDomainTask) (f : Factors) (a : Abstraction) (is : IsFactored task a f) where
  pub number_row : (o : ℕ) → o < length task.operators → IsRow (at_digits (digits_of f) (changes_by_number task f o))
  number_row o l =
      let at = operator_at task o l in
      subst (λ (cs : List Change). IsRow (at_digits (digits_of f) cs)) (sym (changes_at task f o at.0 at.1)) (operator_row task f a is o at.0 at.1)

  module _ (operators : List ℕ) (below : All (λ o. o < length task.operators) operators) where
    abbrev rows : List (List Change)
    rows = distinct_moves (map (changes_by_number task f) operators)

    rows_are : All (λ cs. IsRow (at_digits (digits_of f) cs)) rows
    rows_are k d l =
        rows_from (λ (cs : List Change). IsRow (at_digits (digits_of f) cs)) (map (changes_by_number task f) operators) []
        (λ n ds e. let none = slice_get_past {X = List Change} [] n (omega arith) in absurd (cc)) of_numbers
        k (get_or rows k d) (slice_get-get_or rows k d l)
      where
        each : All (λ cs. IsRow (at_digits (digits_of f) cs)) (map (changes_by_number task f) operators)
        each = All-map (λ cs. IsRow (at_digits (digits_of f) cs)) (changes_by_number task f) operators (λ n e m. number_row (get_or operators n e) (below n e m))

        of_numbers : (n : ℕ) (ds : List Change) → slice_get (map (changes_by_number task f) operators) n ≡ Some ds → IsRow (at_digits (digits_of f) ds)
        of_numbers n ds e =
            subst (λ (cs : List Change). IsRow (at_digits (digits_of f) cs)) (get_or_from_slice_get (map (changes_by_number task f) operators) n ds ds e)
            (each n ds (slice_get_within (map (changes_by_number task f) operators) n ds e))

    pub rows_few : length rows ≤ length operators
    rows_few = let short = rows_short (map (changes_by_number task f) operators) [] in omega (arith, length-map operators (changes_by_number task f))

    pub rows_count : count_in (digits_of f) rows ≤ length operators * 2 ^ 24
    rows_count =
        let few = rows_few in
        let most = mul-le (length rows) (2 ^ 24) (length operators) (2 ^ 24) few (omega arith) in
        let sum = count_few (digits_of f) rows rows_are in
        omega arith

  -- the groups of the first operators have no more transitions than those of all
  pub first_count : (operators : List ℕ) (n : ℕ) → count_in (digits_of f) (distinct_moves (map (changes_by_number task f) (take n operators)))
      ≤ count_in (digits_of f) (distinct_moves (map (changes_by_number task f) operators))
  first_count operators n =
      let same : take n (map (changes_by_number task f) operators) ≡ map (changes_by_number task f) (take n operators) = take-map (changes_by_number task f) n operators in
      let sum = ap (λ (cs : List (List Change)). count_in (digits_of f) (distinct_moves cs)) same in
      let first = count_first (digits_of f) (map (changes_by_number task f) operators) n in
      omega arith

  pub groups_count : transition_count task f ≤ length task.operators * 2 ^ 24
  groups_count =
      let few = groups_few task f in
      let most = mul-le (length (group_changes task f)) (2 ^ 24) (length task.operators) (2 ^ 24) few (omega arith) in
      let sum = count_few (digits_of f) (group_changes task f)
      (λ k d l. subst (λ (cs : List Change). IsRow (at_digits (digits_of f) cs)) (get_or_default (group_changes task f) k [] d l) (group_row task f a is k l)) in
      omega arith
