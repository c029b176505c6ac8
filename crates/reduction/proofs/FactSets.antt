-- Sets of facts as vectors of vectors.
use Rattle.std.proofs.Common.{◌≡◌, ◌<◌, Bool, true, List, [], length, map, get_or, Vec, sym, ap, ◌∙◌, arith}
use Rattle.std.specs.Global.{Global}
use Rattle.std.specs.Prelude.{slice_index_or, slice_set}
use Rattle.std.specs.Vec.{with_item}
use Rattle.std.proofs.lemmas.List.{length-map, get_or-map, map-set}
use Rattle.fdr.specs.declared.fact.Fact.{Fact}
use Rattle.fdr.specs.Tasks.{IsInRange}
use Rattle.reduction.specs.Facts.{with_fact}
use Rattle.reduction.proofs.ClosingLaws.{row_length}

abbrev pub Row : Type 0
Row = Vec Bool Global

abbrev pub items_of : Row → List Bool
items_of r = r.items

module _ (members : List Row) (set : List (List Bool)) (f : Fact) (row : Row) (view : map items_of members ≡ set) (range : IsInRange (map length set) f) (is : row ≡ get_or members f.variable row) where
  exists : f.variable < length set
  exists = omega (arith, range.0, length-map set length)

  known : f.variable < length members
  known = omega (arith, exists, ap (λ (s : List (List Bool)). length s) view, length-map members items_of)

  pub row_items : items_of row ≡ slice_index_or set f.variable []
  row_items = ap items_of is ∙ sym (get_or-map items_of members f.variable row [] known) ∙ ap (λ (s : List (List Bool)). slice_index_or s f.variable []) view

  pub row_within : f.value < length (items_of row)
  row_within = omega (arith, range.1, row_length set f.variable exists, ap (λ (r : List Bool). length r) row_items)

  pub written_fact : map items_of (slice_set members f.variable (with_item row f.value true)) ≡ with_fact set f
  written_fact =
      map-set items_of members f.variable (with_item row f.value true)
      ∙ ap (λ (s : List (List Bool)). slice_set s f.variable (slice_set (items_of row) f.value true)) view
      ∙ ap (λ (r : List Bool). slice_set set f.variable (slice_set r f.value true)) row_items
