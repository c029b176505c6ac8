-- The search space of owners: a task with the columns of its heuristic, a spread of its states over owners, a limit on
-- the number of states that each may expand, and the tie-breaking rule among states of the same f-value.
use Rattle.std.specs.Prelude.{ℕ, List, Option}
use Rattle.fdr.specs.Tasks.{FiniteDomainTask}
use Rattle.cert_value.specs.Certificates.{Table}
use Rattle.checker_clauses.specs.Clauses.{heuristic_of}
use Rattle.owner_theory.specs.Owners.{SearchSpace}
use Rattle.owner_space.specs.declared.ties.Ties.{Ties}

-- a space whose spread is of the type S
pub record SpaceOf (S : Type 0) : Type 0 where
  pub task : FiniteDomainTask
  pub columns : List (List Table)
  pub spread : S
  pub limit : Option ℕ
  pub ties : Ties

-- the search space for `n` owners, if `owner` specifies the owner that the spread assigns to a state
abbrev pub searched : {S : Type 0} → (S → List ℕ → ℕ → ℕ) → SpaceOf S → ℕ → SearchSpace
searched owner space n =
    record {
      task = space.task;
      heuristic = heuristic_of space.task space.columns;
      owner_of = λ state. owner space.spread state n;
      owners = n;
    }
