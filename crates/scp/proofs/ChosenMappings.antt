-- Chosen mappings are mappings within a greater limit.
use Rattle.std.proofs.Common.{ℕ, ◌≤◌, ◌^◌, List, [], ◌∷◌, map, arith}
use Rattle.std.specs.Prelude.{All}
use Rattle.std.proofs.lemmas.List.Elements.{All-nil, All-cons, All-head, All-tail}
use Rattle.fdr.specs.Tasks.{FiniteDomainTask}
use Rattle.abstraction_mapping.specs.Mappings.{Mapping}
use Rattle.abstraction_mapping.specs.Views.{mapping_of}
use Rattle.abstraction_mapping.specs.declared.mapping.Mapping.{Mapping as KeptMapping}
use Rattle.pdb_patterns.specs.Choices.{IsMappingWithin, AreMappings}

pub from_map : {X Y : Type 0} (P : Y → Type 0) (f : X → Y) (xs : List X) → All P (map f xs) → All (λ x. P (f x)) xs
from_map P f [] all = All-nil (λ x. P (f x))
from_map P f (x ∷ xs) all = All-cons (λ x. P (f x)) x xs (All-head P (f x) (map f xs) all) (from_map P f xs (All-tail P (f x) (map f xs) all))

pub within : (task : FiniteDomainTask) (limit more : ℕ) (m : Mapping) → limit ≤ more → IsMappingWithin task limit m → IsMappingWithin task more m
within task limit more m l is = record { mapping = is.mapping; within = omega (arith, l, is.within); some = is.some; numbered = is.numbered }

pub each_mapping : (task : FiniteDomainTask) (limit : ℕ) → limit ≤ 2 ^ 24 → (mappings : List KeptMapping) → AreMappings task limit (map mapping_of mappings)
    → All (λ m. IsMappingWithin task (2 ^ 24) (mapping_of m)) mappings
each_mapping task limit small mappings are k d l = within task limit (2 ^ 24) _ small (from_map (IsMappingWithin task limit) mapping_of mappings are.each k d l)
