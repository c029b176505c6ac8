-- The distinct changes come from operators, and no two of them are the same.
use Rattle.std.proofs.Common.{◌≡◌, ℕ, ◌+◌, ◌<◌, ◌≤◌, Bool, true, false, List, [], ◌∷◌, ◌++◌, length, map, get_or, cond, Option, Some, None, refl, sym, ap, ◌∙◌, subst, arith, ⊎_elim, suc}
use Rattle.std.specs.Prelude.{fold, slice_get, slice_index_or, option_and_then, option_map}
use Rattle.std.specs.List.{list_any}
use Rattle.std.proofs.lemmas.Bool.{false≢true}
use Rattle.std.proofs.lemmas.List.{length_push, length-map}
use Rattle.std.proofs.lemmas.Option.{slice_get_past, slice_get-get_or, slice_get-map}
use Rattle.fdr.specs.Tasks.{FiniteDomainTask, Operator}
use Rattle.abstraction.specs.Abstractions.{Abstraction}
use Rattle.abstraction_groups.specs.declared.change.Change.{Change}
use Rattle.abstraction_groups.specs.Changes.{moves, same, row_of, with_row, with_changes, distinct_moves, at_digits, size_by}
use Rattle.abstraction_groups.specs.RowLaws.{AreDistinct, stands, found_by}
use Rattle.abstraction_groups.specs.Factors.{Factors, IsFactored, class_operator, digits_of, changes_of, group_changes, group_of}
use Rattle.abstraction_groups.specs.GroupLaws.{operator_well}
use Rattle.abstraction_groups.specs.Pairs.{IsRow}
use Rattle.abstraction_groups.proofs.FitLaws.{row_is, size_told}
use Rattle.abstraction_groups.proofs.ReadLaws.{length-digits}
use Rattle.abstraction_groups.proofs.TableLaws.{get_push, distinct_push}

-- ---- one row more

module _ (P : List Change → Type 0) where
  abbrev AllRows : List (List Change) → Type 0
  AllRows rows = (g : ℕ) (ds : List Change) → slice_get rows g ≡ Some ds → P ds

  rows_with : (rows : List (List Change)) (cs : List Change) → AllRows rows → P cs → AllRows (with_row rows cs)
  rows_with rows cs all one = go (list_any (same cs) rows)
    where
      go : (b : Bool) → AllRows (cond b rows (rows ++ cs ∷ []))
      go true = all
      go false = λ g ds e.
          ⊎_elim (λ (h : (g < length rows) × (slice_get rows g ≡ Some ds)). all g ds h.1) (λ (h : (g ≡ length rows) × (cs ≡ ds)). subst P h.1 one) (get_push rows cs ds g e)

  rows_with_changes : (rows : List (List Change)) (cs : List Change) → AllRows rows → P cs → AllRows (with_changes rows cs)
  rows_with_changes rows cs all one = go (moves cs)
    where
      go : (b : Bool) → AllRows (cond b (with_row rows cs) rows)
      go true = rows_with rows cs all one
      go false = all

  pub rows_from : (all rows : List (List Change)) → AllRows rows → AllRows all → AllRows (fold with_changes rows all)
  rows_from [] rows have some = have
  rows_from (cs ∷ all) rows have some = rows_from all (with_changes rows cs) (rows_with_changes rows cs have (some 0 cs refl)) (λ g ds e. some (suc g) ds e)

distinct_with : (rows : List (List Change)) (cs : List Change) → AreDistinct rows → AreDistinct (with_row rows cs)
distinct_with rows cs are = go (list_any (same cs) rows) refl
  where
    go : (b : Bool) → list_any (same cs) rows ≡ b → AreDistinct (cond b rows (rows ++ cs ∷ []))
    go true e = are
    go false e = distinct_push rows cs are (λ g h. false≢true (sym e ∙ stands rows cs g h))

pub distinct_with_changes : (rows : List (List Change)) (cs : List Change) → AreDistinct rows → AreDistinct (with_changes rows cs)
distinct_with_changes rows cs are = go (moves cs)
  where
    go : (b : Bool) → AreDistinct (cond b (with_row rows cs) rows)
    go true = distinct_with rows cs are
    go false = are

distinct_from : (all rows : List (List Change)) → AreDistinct rows → AreDistinct (fold with_changes rows all)
distinct_from [] rows are = are
distinct_from (cs ∷ all) rows are = distinct_from all (with_changes rows cs) (distinct_with_changes rows cs are)

pub distinct_none : AreDistinct []
distinct_none g h cs e q = let none = slice_get_past {X = List Change} [] g (omega arith) in absurd (cc)

pub distinct_all : (all : List (List Change)) → AreDistinct (distinct_moves all)
distinct_all all = distinct_from all [] distinct_none

changes_short : (rows : List (List Change)) (cs : List Change) → length (with_changes rows cs) ≤ length rows + 1
changes_short rows cs = go (moves cs)
  where
    row_short : (b : Bool) → length (cond b rows (rows ++ cs ∷ [])) ≤ length rows + 1
    row_short true = omega arith
    row_short false = omega (arith, length_push rows cs)

    go : (b : Bool) → length (cond b (with_row rows cs) rows) ≤ length rows + 1
    go true = row_short (list_any (same cs) rows)
    go false = omega arith

pub rows_short : (all rows : List (List Change)) → length (fold with_changes rows all) ≤ length rows + length all
rows_short [] rows = omega arith
rows_short (cs ∷ all) rows = let rest = rows_short all (with_changes rows cs) in let one = changes_short rows cs in omega arith

-- ---- the first operator of a group

module _ (task : FiniteDomainTask) (f : Factors) where
  pub groups_few : length (group_changes task f) ≤ length task.operators
  groups_few = let short = rows_short (map (changes_of f) task.operators) [] in omega (arith, length-map task.operators (changes_of f))

  abbrev IsOf : List Change → Type 0
  IsOf cs = (o : ℕ) × (op : Operator) × (slice_get task.operators o ≡ Some op) × (cs ≡ changes_of f op)

  of_mapped : (o : ℕ) (cs : List Change) → slice_get (map (changes_of f) task.operators) o ≡ Some cs → IsOf cs
  of_mapped o cs e = go (slice_get task.operators o) refl (sym (slice_get-map (changes_of f) task.operators o) ∙ e)
    where
      go : (r : Option Operator) → slice_get task.operators o ≡ r → option_map (changes_of f) r ≡ Some cs → IsOf cs
      go None at h = absurd (cc)
      go (Some op) at h = (o, op, at, cc)

  row_from : (g : ℕ) (cs : List Change) → slice_get (group_changes task f) g ≡ Some cs → IsOf cs
  row_from g cs e =
      rows_from IsOf (map (changes_of f) task.operators) []
      (λ n ds q. let none = slice_get_past {X = List Change} [] n (omega arith) in absurd (cc)) of_mapped g cs e

  pub group_operator : (g : ℕ) → g < length (group_changes task f) →
      (o : ℕ) × (op : Operator) × (slice_get task.operators o ≡ Some op) × (slice_index_or (group_changes task f) g [] ≡ changes_of f op) × (group_of task f o ≡ Some g)
  group_operator g l =
      let at : slice_get (group_changes task f) g ≡ Some (get_or (group_changes task f) g []) = slice_get-get_or (group_changes task f) g [] l in
      let from = row_from g (get_or (group_changes task f) g []) at in
      let row : slice_get (group_changes task f) g ≡ Some (changes_of f from.1) = at ∙ ap Some from.3 in
      let found = found_by (group_changes task f) (changes_of f from.1) g (distinct_all (map (changes_of f) task.operators)) row in
      (from.0, from.1, from.2, from.3, ap (option_and_then (λ op. row_of (group_changes task f) (changes_of f op))) from.2 ∙ found)

  -- the changes of an operator are a row
  module _ (a : Abstraction) (is : IsFactored task a f) where
    pub operator_row : (o : ℕ) (op : Operator) → slice_get task.operators o ≡ Some op → IsRow (at_digits (digits_of f) (changes_of f op))
    operator_row o op at = row_is f.counts (class_operator f op) (operator_well task a f is o op at) f.variables is.positive is.small

    pub operator_size : (o : ℕ) (op : Operator) → slice_get task.operators o ≡ Some op → size_by (at_digits (digits_of f) (changes_of f op)) ≡ a.size
    operator_size o op at = size_told f.counts (class_operator f op) (operator_well task a f is o op at) 1 f.variables ∙ sym is.size

    pub group_row : (g : ℕ) → g < length (group_changes task f) → IsRow (at_digits (digits_of f) (slice_index_or (group_changes task f) g []))
    group_row g l = let from = group_operator g l in subst (λ (cs : List Change). IsRow (at_digits (digits_of f) cs)) (sym from.3) (operator_row from.0 from.1 from.2)

    pub group_size : (g : ℕ) → g < length (group_changes task f) → size_by (at_digits (digits_of f) (slice_index_or (group_changes task f) g [])) ≡ a.size
    group_size g l = let from = group_operator g l in ap (λ (cs : List Change). size_by (at_digits (digits_of f) cs)) from.3 ∙ operator_size from.0 from.1 from.2

    pub group_long : (g : ℕ) → g < length (group_changes task f) → length (slice_index_or (group_changes task f) g []) ≡ length (digits_of f)
    group_long g l = let from = group_operator g l in ap length from.3 ∙ length-map f.variables _ ∙ sym (length-digits f)
