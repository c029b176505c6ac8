-- Pools of abstraction mappings, and those that a stage adds to them.
use Rattle.std.specs.Prelude.{◌≡◌, ◌≢◌, ℕ, ◌≤◌, ◌<◌, ◌^◌, Bool, true, false, if◌then◌else◌, nat_lt, List, [], ◌∷◌, ◌++◌, length, All, AllPairs, Contains, IfSome}
use Rattle.fdr.specs.Tasks.{FiniteDomainTask}
use Rattle.pdb_refinement.specs.declared.run.Refined.{Refined}
use Rattle.abstraction_mapping.specs.Views.{mapping_of}
use Rattle.abstraction_mapping.specs.Mappings.{Mapping}
use Rattle.pdb_patterns.specs.Choices.{IsMappingWithin}

-- distinct mappings of the task, each with at most 2^24 abstract states
pub record AreDistinctMappings (task : FiniteDomainTask) (mappings : List Mapping) : Type 0 where
  pub each : All (IsMappingWithin task (2 ^ 24)) mappings
  pub distinct : AllPairs (λ m n. m ≢ n) mappings

-- a task, and mappings of it
pub record PoolOf : Type 0 where
  pub task : FiniteDomainTask
  pub mappings : List Mapping

-- the same pool with more mappings, which have at most `limit` abstract states each
pub record IsExtension (limit : ℕ) (old new : PoolOf) : Type 0 where
  pub task : new.task ≡ old.task
  pub added : List Mapping
  pub front : new.mappings ≡ old.mappings ++ added
  pub within : All (IsMappingWithin old.task limit) added

-- the same pool with one more mapping, which was not in it, or the same pool, which has the mapping
pub record IsPoolWith (mapping : Mapping) (old new : PoolOf) (is_new : Bool) : Type 0 where
  pub same : is_new ≡ false → new ≡ old
  pub present : is_new ≡ false → Contains old.mappings mapping
  pub longer : is_new ≡ true → new ≡ record old { mappings = old.mappings ++ mapping ∷ [] }
  pub distinct : is_new ≡ true → All (λ m. m ≢ mapping) old.mappings

-- the mapping of the result of a run, if it has one, is within the limit
abbrev pub IsResultWithin : FiniteDomainTask → ℕ → Refined → Type 0
IsResultWithin task limit refined = IfSome refined.mapping (λ m. IsMappingWithin task limit (mapping_of m))
