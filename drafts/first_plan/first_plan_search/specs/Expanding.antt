-- The expansion of states.
use Rattle.std.specs.Prelude.{◌≡◌, ℕ, true, List, length, All}
use Rattle.fdr.specs.Tasks.{FiniteDomainTask, applies_at}
use Rattle.scp.specs.Places.{PlacesOf}

-- the cached state is of the task, the buffer has a value for each variable, and the operators apply in the state
pub record IsExpanding (task : FiniteDomainTask) (places : PlacesOf) (buffer applicable : List ℕ) : Type 0 where
  pub of_task : places.task ≡ task
  pub as_long : length buffer ≡ length task.value_names
  pub apply : All (λ o. applies_at task o places.state ≡ true) applicable
