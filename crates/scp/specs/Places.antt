-- A state's indices into the tables of columns.
use Rattle.std.specs.Prelude.{◌≡◌, ℕ, List, length, Option, IfSome}
use Rattle.fdr.specs.Tasks.{FiniteDomainTask, ranges, IsState}
use Rattle.cert_value.specs.Certificates.{Table}
use Rattle.scp_rows.specs.declared.flat.Flat.{Flat}
use Rattle.scp_rows.specs.declared.flat.BlockSums.{BlockSums}
use Rattle.scp_rows.specs.Flats.{most_in, blocks_in, words_in}
use Rattle.scp_rows.specs.Moves.{first_rows, IsEntered}

-- the columns of a task, and a state
pub record PlacesOf : Type 0 where
  pub task : FiniteDomainTask
  pub columns : List (List Table)
  pub state : List ℕ

-- the state is a state of the task, and there is a number for each mapping: its abstract state, once the sums are
-- computed
pub record AreEntered (task : FiniteDomainTask) (flat : Flat) (state indices : List ℕ) (sums : Option BlockSums) : Type 0 where
  pub state_of_task : IsState (ranges task) state
  pub as_long : length indices ≡ length (first_rows (blocks_in flat))
  pub each : IfSome sums (λ s. IsEntered (most_in flat) (first_rows (blocks_in flat)) state indices (words_in s))
