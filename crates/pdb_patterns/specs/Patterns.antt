-- Patterns: variables whose projection is small enough for a table (Culberson and Schaeffer 1998; Edelkamp 2001).
use Rattle.std.specs.Prelude.{ℕ, ◌≤◌, List}
use Rattle.std.specs.List.Sorted.{IsStrictlyIncreasing}
use Rattle.fdr.specs.Tasks.{FiniteDomainTask, ranges}
use Rattle.abstraction.specs.Projections.{size_of, AllExist}

-- strictly increasing variables of the task, whose projection has at most `limit` abstract states
pub record IsPattern (task : FiniteDomainTask) (limit : ℕ) (pattern : List ℕ) : Type 0 where
  pub increasing : IsStrictlyIncreasing pattern
  pub exist : AllExist (ranges task) pattern
  pub within : size_of (ranges task) pattern ≤ limit
