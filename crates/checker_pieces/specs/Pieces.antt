-- A list of items in pieces, each of which is searched for its first violation.
use Rattle.std.specs.Prelude.{◌≡◌, ℕ, ◌+◌, ◌<◌, ◌≤◌, All, List, length, slice_get, slice_index_or, Option, Some, None, Result, Ok}
use Rattle.std.specs.declared.alloc.AllocError.{AllocError}
use Rattle.checker_clauses.specs.declared.violation.Violation.{Violation}

-- the first violation among the items from `start` on and before `end`, or none, if `says` is the test of one item
abbrev pub IsFirstIn : (ℕ → Option Violation → Type 0) → ℕ → ℕ → Option Violation → Type 0
IsFirstIn says start end None = (i : ℕ) → start ≤ i → i < end → says i None
IsFirstIn says start end (Some v) =
    (i : ℕ) × (start ≤ i) × (i < end) × says i (Some v) × ((j : ℕ) → start ≤ j → j < i → says j None)

-- the result of a piece: the first violation among its items, if allocation did not fail
abbrev pub Piece : Type 0
Piece = Result (Option Violation) AllocError

-- the violation of the first of these pieces that has one, or none
abbrev pub IsFirstOf : List Piece → Option Violation → Type 0
IsFirstOf pieces None = (k : ℕ) → k < length pieces → slice_get pieces k ≡ Some (Ok None)
IsFirstOf pieces (Some v) = (k : ℕ) × (slice_get pieces k ≡ Some (Ok (Some v))) × ((j : ℕ) → j < k → slice_get pieces j ≡ Some (Ok None))

-- pieces that begin at `starts` cover `len` items: each of them ends at the start of the next one, and the last one at
-- the end
pub record AreStarts (len : ℕ) (starts : List ℕ) : Type 0 where
  pub first : slice_index_or starts 0 len ≡ 0
  pub within : All (λ s. s ≤ len) starts

-- a search may be called for the items of any piece of `len` items
abbrev pub AcceptsPieces : (ℕ → ℕ → Type 0) → ℕ → Type 0
AcceptsPieces pre len = (start end : ℕ) → end ≤ len → pre start end

-- the first violation of pieces that cover `len` items, if `gives` holds for each of them
pub record IsFirstOfPieces (gives : ℕ → ℕ → Piece → Type 0) (len : ℕ) (found : Option Violation) : Type 0 where
  pub pieces : List Piece
  pub starts : List ℕ
  pub are : AreStarts len starts
  pub many : length pieces ≡ length starts
  pub each : (k : ℕ) (p : Piece) → slice_get pieces k ≡ Some p → gives (slice_index_or starts k len) (slice_index_or starts (k + 1) len) p
  pub first : IsFirstOf pieces found
