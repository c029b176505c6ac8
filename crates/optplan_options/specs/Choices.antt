-- Options of the solver.
use Rattle.std.specs.Prelude.{ℕ, Bool, List, Option}
use Rattle.owner_space.specs.declared.ties.Ties.{Ties}
use Rattle.optplan_options.specs.declared.options.Tables.{Tables}

-- the number of owners, the greatest number of abstract states of a table, the greatest number of nodes that each owner
-- may expand in a search, if there is a limit, the capacity of a link between two workers in messages, the greatest
-- number of steps of a simulation, the order of expansion among nodes of the same f-value, whether a multi-threaded
-- solver searches in stages, the numbers of states at which these end, whether a certificate is made, and whether a
-- multi-threaded solver searches what a reduction leaves of the task
pub record Choices : Type 0 where
  pub workers : ℕ
  pub table : ℕ
  pub limit : Option ℕ
  pub ring : ℕ
  pub steps : ℕ
  pub ties : Ties
  pub tables : Tables
  pub stage_ends : List ℕ
  pub certificate : Bool
  pub reduction : Bool
