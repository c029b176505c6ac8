-- Rows of numbers, stored one after the other in one list.
use Rattle.index_rows.specs.declared.rows.Span.{Span}
use Rattle.std.specs.Prelude.{ℕ, ◌≤◌, List, slice_range, slice_get, IfSome}

abbrev pub part : List ℕ → Span → List ℕ
part numbers span = slice_range numbers span.start span.end

-- each span is within the list
abbrev pub LieWithin : List Span → ℕ → Type 0
LieWithin spans size = (k : ℕ) → IfSome (slice_get spans k) (λ s. (s.start ≤ s.end) × (s.end ≤ size))
