-- The first violation of the pieces is the first among all items.
use Rattle.std.proofs.Common.{◌≡◌, ◌⊎◌, ℕ, zero, suc, ◌+◌, ◌<◌, ◌≤◌, List, length, Option, Some, None, Ok, arith, add-one, inl, inr, ⊎_elim, le_refl}
use Rattle.std.specs.Prelude.{slice_get, slice_index_or, IfOk}
use Rattle.std.proofs.lemmas.Bool.{cases_lt}
use Rattle.std.proofs.lemmas.List.{get_or_past}
use Rattle.checker_clauses.specs.declared.violation.Violation.{Violation}
use Rattle.checker_pieces.specs.Pieces.{Piece, IsFirstIn, IsFirstOf, IsFirstOfPieces, AreStarts}

module _ (says : ℕ → Option Violation → Type 0) (start : ℕ → ℕ) (pieces : List Piece)
    (found : (k : ℕ) (r : Piece) → slice_get pieces k ≡ Some r → IfOk r (IsFirstIn says (start k) (start (k + 1)))) (first : start 0 ≡ 0) where
  -- no item before a piece has a violation if no piece before it has one
  none_before : (k : ℕ) → ((j : ℕ) → j < k → slice_get pieces j ≡ Some (Ok None)) → (i : ℕ) → i < start k → says i None
  none_before zero none i l = absurd (omega (arith, l, first))
  none_before (suc k) none i l = go (none_before k (λ j n. none j (omega (arith, n))) i) (found k (Ok None) (none k (omega arith))) (cases_lt i (start k))
    where
      go : (i < start k → says i None) → IsFirstIn says (start k) (start (k + 1)) None → (i < start k) ⊎ (start k ≤ i) → says i None
      go before here (inl m) = before m
      go before here (inr m) = here i m (rw add-one l)

  first_of_all : (len : ℕ) → ((k : ℕ) → start k ≤ len) → start (length pieces) ≡ len → (v : Option Violation) → IsFirstOf pieces v → IsFirstIn says 0 len v
  first_of_all len within all None none = λ i l m. none_before (length pieces) none i (rw all m)
  first_of_all len within all (Some v) is = (here.0, omega arith, omega (arith, here.2, within (is.0 + 1)), here.3, λ j l m. go j m (cases_lt j (start is.0)))
    where
      here : IsFirstIn says (start is.0) (start (is.0 + 1)) (Some v)
      here = found is.0 (Ok (Some v)) is.1

      go : (j : ℕ) → j < here.0 → (j < start is.0) ⊎ (start is.0 ≤ j) → says j None
      go j m (inl n) = none_before is.0 is.2 j n
      go j m (inr n) = here.4 j n m

-- no piece begins after the end
starts_within : (len : ℕ) (starts : List ℕ) → AreStarts len starts → (k : ℕ) → slice_index_or starts k len ≤ len
starts_within len starts are k = ⊎_elim (λ l. are.within k len l) (λ past. rw (get_or_past starts k len past) (le_refl len)) (cases_lt k (length starts))

-- the first violation of pieces is the first of all items, if the search finds the first of each piece
pub first_among : (says : ℕ → Option Violation → Type 0) (gives : ℕ → ℕ → Piece → Type 0) (len : ℕ)
    → ((start end : ℕ) (p : Piece) → gives start end p → IfOk p (IsFirstIn says start end))
    → (found : Option Violation) → IsFirstOfPieces gives len found → IsFirstIn says 0 len found
first_among says gives len tells found is =
    first_of_all says (λ k. slice_index_or is.starts k len) is.pieces
    (λ k p there. tells (slice_index_or is.starts k len) (slice_index_or is.starts (k + 1) len) p (is.each k p there))
    is.are.first len (starts_within len is.starts is.are)
    (rw is.many (get_or_past is.starts (length is.starts) len (le_refl (length is.starts)))) found is.first
