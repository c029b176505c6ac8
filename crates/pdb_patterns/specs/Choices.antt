-- Mappings that are chosen for the tables of a task.
use Rattle.std.specs.Prelude.{◌≡◌, ◌≢◌, ℕ, ◌≤◌, ◌==◌, ◌⊎◌, Bool, true, List, [], length, slice_index, All, AllPairs}
use Rattle.std.specs.List.{list_any}
use Rattle.fdr.specs.Tasks.{FiniteDomainTask, ranges}
use Rattle.abstraction_domain.specs.Rows.{are_numbered}
use Rattle.abstraction_mapping.specs.Mappings.{Mapping, Pattern, Domains, variables_of, abstraction_by, is_mapping}

-- the classes of rows are numbered in the order of their first occurrences
abbrev pub HasNumberedClasses : Mapping → Type 0
HasNumberedClasses (Pattern pattern) = Unit {0}
HasNumberedClasses (Domains rows) = All (λ r. are_numbered r.classes ≡ true) rows

-- a mapping of the task with at least one variable and at most `limit` abstract states
pub record IsMappingWithin (task : FiniteDomainTask) (limit : ℕ) (m : Mapping) : Type 0 where
  pub mapping : is_mapping task m ≡ true
  pub within : (abstraction_by task m).size ≤ limit
  pub some : variables_of m ≢ []
  pub numbered : HasNumberedClasses m

-- the mapping has the variable
abbrev pub keeps : ℕ → Mapping → Bool
keeps variable m = list_any (λ v. v == variable) (variables_of m)

-- each variable of the goal that a table within the limit can have is in one of the mappings
abbrev pub KeepGoal : FiniteDomainTask → ℕ → List Mapping → Type 0
KeepGoal task limit mappings = All (λ f. ((2 ≤ limit) ⊎ (slice_index (ranges task) f.variable ≤ limit)) → list_any (keeps f.variable) mappings ≡ true) task.goal

-- the greatest number of mappings
abbrev pub max_mappings : ℕ
max_mappings = 64

-- at most `max_mappings` distinct mappings of the task, each with at most `limit` abstract states
pub record AreMappings (task : FiniteDomainTask) (limit : ℕ) (mappings : List Mapping) : Type 0 where
  pub each : All (IsMappingWithin task limit) mappings
  pub distinct : AllPairs (λ m n. m ≢ n) mappings
  pub few : length mappings ≤ max_mappings
