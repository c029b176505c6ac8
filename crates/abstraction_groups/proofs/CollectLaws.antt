-- Groups with one operator more.
use Rattle.std.proofs.Common.{◌≡◌, ℕ, ◌+◌, ◌<◌, Bool, true, false, List, [], ◌∷◌, ◌++◌, length, take, drop, cond, Some, refl, ap, ◌∙◌, arith, inl, inr}
use Rattle.std.specs.Prelude.{◌⊎◌, slice_get}
use Rattle.std.specs.List.{list_any}
use Rattle.std.proofs.lemmas.List.{append-nil, drop_all, length_push, take_all}
use Rattle.std.proofs.lemmas.List.Sums.{sum_by-append, sum_by-cons}
use Rattle.std.proofs.lemmas.Option.{slice_get_within}
use Rattle.abstraction.specs.declared.digit.Digit.{Digit}
use Rattle.abstraction_groups.specs.declared.change.Change.{Change}
use Rattle.abstraction_groups.specs.Changes.{at_digits, pair_count, same, with_row}
use Rattle.abstraction_groups.specs.Collected.{count_in}
use Rattle.abstraction_groups.specs.RowLaws.{AreDistinct}
use Rattle.abstraction_groups.proofs.TableLaws.{get_pushed}

-- the number of the changes is the next one just where they are new
pub with_row_cases : (rows : List (List Change)) (cs : List Change) (g : ℕ) → slice_get (with_row rows cs) g ≡ Some cs → AreDistinct (with_row rows cs) →
    ((g ≡ length rows) × (with_row rows cs ≡ rows ++ cs ∷ [])) ⊎ ((g ≡ length rows → ⊥) × (with_row rows cs ≡ rows))
with_row_cases rows cs g at distinct = go (list_any (same cs) rows) at distinct
  where
    go : (b : Bool) → slice_get (cond b rows (rows ++ cs ∷ [])) g ≡ Some cs → AreDistinct (cond b rows (rows ++ cs ∷ [])) →
        ((g ≡ length rows) × (cond b rows (rows ++ cs ∷ []) ≡ rows ++ cs ∷ [])) ⊎ ((g ≡ length rows → ⊥) × (cond b rows (rows ++ cs ∷ []) ≡ rows))
    go true at distinct = inr (λ e. let within = slice_get_within rows g cs at in omega arith, refl)
    go false at distinct = inl (distinct g (length rows) cs at (get_pushed rows cs), refl)

pub row_number : (rows : List (List Change)) (cs : List Change) (g : ℕ) → slice_get (with_row rows cs) g ≡ Some cs → g < length rows + 1
row_number rows cs g at = go (list_any (same cs) rows) at
  where
    go : (b : Bool) → slice_get (cond b rows (rows ++ cs ∷ [])) g ≡ Some cs → g < length rows + 1
    go true at = let within = slice_get_within rows g cs at in omega arith
    go false at = let within = slice_get_within (rows ++ cs ∷ []) g cs at in omega (arith, length_push rows cs)

pub count_with : (digits : List Digit) (rows : List (List Change)) (cs : List Change) → count_in digits (rows ++ cs ∷ []) ≡ count_in digits rows + pair_count (at_digits digits cs)
count_with digits rows cs =
    let split = sum_by-append (λ (ds : List Change). pair_count (at_digits digits ds)) rows (cs ∷ []) in
    let last = sum_by-cons (λ (ds : List Change). pair_count (at_digits digits ds)) cs [] in
    omega arith

-- a buffer whose content was replaced
pub replaced : {X : Type 0} (n : ℕ) (xs ys : List X) → n ≡ length ys → length xs ≡ length ys → take n (xs ++ drop (length xs) ys) ≡ xs
replaced n xs ys whole long =
    ap (λ zs. take n (xs ++ zs)) (drop_all (length xs) ys (omega arith)) ∙ ap (take n) (append-nil xs) ∙ take_all n xs (omega arith)
