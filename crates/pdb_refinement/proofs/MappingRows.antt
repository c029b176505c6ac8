-- The rows of a mapping that was refined.
use Rattle.std.proofs.Common.{◌≡◌, ℕ, Bool, true, false, List, [], ◌∷◌, length, map}
use Rattle.std.specs.Prelude.{slice_index, slice_index_or, ◌<◌, All}
use Rattle.std.proofs.lemmas.List.FromFn.{length-range_with_len}
use Rattle.std.proofs.lemmas.List.Elements.{All-nil, All-cons, All-head, All-tail}
use Rattle.fdr.specs.Tasks.{FiniteDomainTask, ranges}
use Rattle.abstraction_domain.specs.Rows.{Row, are_numbered}
use Rattle.abstraction_domain.specs.Domains.{IsFit, variables}
use Rattle.abstraction_mapping.specs.Mappings.{Mapping, Pattern, Domains}
use Rattle.abstraction_mapping.specs.TestedMappings.{exist, fit, of_task}
use Rattle.pdb_refinement.specs.Refinements.{IsRefinedWithin}
use Rattle.pdb_refinement.specs.Classes.{IsRowOf, whole_row, rows_by}
use Rattle.pdb_refinement.proofs.Splits.{numbered_up}

module _ (task : FiniteDomainTask) (banned : List Bool) where
  domain_rows : (rows : List Row) → All (IsFit (ranges task)) rows → All (λ (r : Row). are_numbered r.classes ≡ true) rows
      → All (λ (v : ℕ). slice_index_or banned v false ≡ false) (variables rows) → All (IsRowOf task banned) rows
  domain_rows [] fits numbered allowed = All-nil (IsRowOf task banned)
  domain_rows (r ∷ rs) fits numbered allowed =
      All-cons (IsRowOf task banned) r rs
      (record {
        fit = All-head (IsFit (ranges task)) r rs fits;
        numbered = All-head (λ (q : Row). are_numbered q.classes ≡ true) r rs numbered;
        allowed = All-head (λ (v : ℕ). slice_index_or banned v false ≡ false) r.variable (variables rs) allowed;
      })
      (domain_rows rs (All-tail (IsFit (ranges task)) r rs fits) (All-tail (λ (q : Row). are_numbered q.classes ≡ true) r rs numbered)
      (All-tail (λ (v : ℕ). slice_index_or banned v false ≡ false) r.variable (variables rs) allowed))

  pattern_rows : (pattern : List ℕ) → All (λ (v : ℕ). v < length (ranges task)) pattern
      → All (λ (v : ℕ). slice_index_or banned v false ≡ false) pattern → All (IsRowOf task banned) (map (whole_row task) pattern)
  pattern_rows [] below allowed = All-nil (IsRowOf task banned)
  pattern_rows (v ∷ vs) below allowed =
      let range : ℕ = slice_index (ranges task) v in
      All-cons (IsRowOf task banned) (whole_row task v) (map (whole_row task) vs)
      (record {
        fit = record { exists = All-head (λ (u : ℕ). u < length (ranges task)) v vs below; as_long = length-range_with_len 0 range };
        numbered = numbered_up 0 range;
        allowed = All-head (λ (u : ℕ). slice_index_or banned u false ≡ false) v vs allowed;
      })
      (pattern_rows vs (All-tail (λ (u : ℕ). u < length (ranges task)) v vs below) (All-tail (λ (u : ℕ). slice_index_or banned u false ≡ false) v vs allowed))

  pub rows_allowed : (limit : ℕ) (m : Mapping) → IsRefinedWithin task limit banned m → All (IsRowOf task banned) (rows_by task m)
  rows_allowed limit (Pattern pattern) is = pattern_rows pattern (exist task pattern (of_task task (Pattern pattern) is.within.mapping)) is.avoids
  rows_allowed limit (Domains rows) is = domain_rows rows (fit (ranges task) rows (of_task task (Domains rows) is.within.mapping)) is.within.numbered is.avoids
