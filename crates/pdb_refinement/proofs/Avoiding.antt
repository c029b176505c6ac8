-- A mapping of rows that are not of banned variables.
use Rattle.std.proofs.Common.{◌≡◌, ℕ, Bool, false, List, Option, Some, None}
use Rattle.std.specs.Prelude.{slice_index_or, All, Contains, IfSome}
use Rattle.std.proofs.lemmas.List.Elements.{All-map, All-weaker, All-contains}
use Rattle.fdr.specs.Tasks.{FiniteDomainTask}
use Rattle.abstraction_domain.specs.Rows.{Row}
use Rattle.abstraction_domain.specs.Domains.{variables}
use Rattle.abstraction_mapping.specs.declared.mapping.Mapping.{Mapping as KeptMapping}
use Rattle.abstraction_mapping.specs.Mappings.{Mapping, variables_of}
use Rattle.abstraction_mapping.specs.Views.{mapping_of}
use Rattle.pdb_patterns.specs.Choices.{IsMappingWithin}
use Rattle.pdb_refinement.specs.Refinements.{IsRefinedWithin}
use Rattle.pdb_refinement.specs.Classes.{IsRowOf}

pub refined_within : (task : FiniteDomainTask) (limit : ℕ) (banned : List Bool) (rows : List Row) (m : Mapping) → All (IsRowOf task banned) rows → IsMappingWithin task limit m → All (Contains (variables rows)) (variables_of m) → IsRefinedWithin task limit banned m
refined_within task limit banned rows m are within among =
    let allowed : All (λ (v : ℕ). slice_index_or banned v false ≡ false) (variables rows) =
    All-map (λ (v : ℕ). slice_index_or banned v false ≡ false) (λ (r : Row). r.variable) rows
    (All-weaker (IsRowOf task banned) (λ (r : Row). slice_index_or banned r.variable false ≡ false) (λ r is. is.allowed) rows are) in
    record {
      within = within;
      avoids = All-weaker (λ (v : ℕ). Contains (variables rows) v) (λ (v : ℕ). slice_index_or banned v false ≡ false)
          (λ v is. All-contains (λ (u : ℕ). slice_index_or banned u false ≡ false) (variables rows) v allowed is) (variables_of m) among;
    }

pub refined_found : (task : FiniteDomainTask) (limit : ℕ) (banned : List Bool) (rows : List Row) (found : Option KeptMapping) → All (IsRowOf task banned) rows
    → IfSome found (λ m. IsMappingWithin task limit (mapping_of m)) → IfSome found (λ m. All (Contains (variables rows)) (variables_of (mapping_of m)))
    → IfSome found (λ m. IsRefinedWithin task limit banned (mapping_of m))
refined_found task limit banned rows None are within among = tt
refined_found task limit banned rows (Some m) are within among = refined_within task limit banned rows (mapping_of m) are within among
