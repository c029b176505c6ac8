-- Refinement of abstractions: classes of values are split, never joined (counterexample-guided abstraction
-- refinement: Clarke, Grumberg, Jha, Lu and Veith 2003; Rovner, Sievers and Helmert 2019; Kreft, Büchner, Sievers and
-- Helmert 2023).
use Rattle.std.specs.Prelude.{◌≡◌, ℕ, ◌<◌, Bool, true, false, List, length, slice_index, slice_index_or, All}
use Rattle.fdr.specs.declared.fact.Fact.{Fact}
use Rattle.fdr.specs.Tasks.{FiniteDomainTask}
use Rattle.abstraction_mapping.specs.Mappings.{Mapping, Pattern, Domains, variables_of}
use Rattle.pdb_patterns.specs.Choices.{IsMappingWithin}
use Rattle.pdb_flaws.specs.declared.kind.Kind.{Kind}
use Rattle.pdb_flaws.specs.declared.kind.Kind.TheVariants as kind

-- values that share a class in `new` share one in `old`
pub record Refines (old new : List ℕ) : Type 0 where
  pub as_long : length new ≡ length old
  pub apart : (v w : ℕ) → v < length old → w < length old → slice_index new v ≡ slice_index new w → slice_index old v ≡ slice_index old w

-- no variable of the mapping is banned
abbrev pub AvoidsBanned : List Bool → Mapping → Type 0
AvoidsBanned banned m = All (λ v. slice_index_or banned v false ≡ false) (variables_of m)

-- a mapping within the limit, without banned variables
pub record IsRefinedWithin (task : FiniteDomainTask) (limit : ℕ) (banned : List Bool) (m : Mapping) : Type 0 where
  pub within : IsMappingWithin task limit m
  pub avoids : AvoidsBanned banned m

-- splits of whole variables make a pattern, and splits of single values make rows of classes
abbrev pub is_of_kind : Kind → Mapping → Bool
is_of_kind kind.Pattern (Pattern pattern) = true
is_of_kind kind.Pattern (Domains rows) = false
is_of_kind kind.Domain (Pattern pattern) = false
is_of_kind kind.Domain (Domains rows) = true

-- no variable of a considered fact is banned
abbrev pub AllowsConsidered : List Fact → List Bool → List Bool → Type 0
AllowsConsidered goal considered banned =
    (k : ℕ) (d : Fact) → k < length goal → slice_index_or considered k false ≡ true → slice_index_or banned (slice_index_or goal k d).variable false ≡ false
