-- The ends that a single-threaded search for a task may have, and why it may be refused: by a list of steps, and by
-- random steps.
use Rattle.std.specs.Prelude.{◌≡◌, ℕ, List, sum}
use Rattle.fdr.specs.Tasks.{FiniteDomainTask, ranges}
use Rattle.scp.specs.Partitions.{AreCostPartitioned}
use Rattle.packed_spread.specs.Spreads as spread
use Rattle.packed_spread.specs.Spreads.{zobrist_owner, splitmix_words}
use Rattle.owner.specs.Spaces.{SpaceOf}
use Rattle.owner.specs.declared.fault.OwnerFault.TheVariants as owner_fault
use Rattle.extract.specs.Ends.{EndOf}
use Rattle.netcore.specs.declared.step.WorldStep.{WorldStep}
use Rattle.netcore.specs.Worlds.{WorldOf, IsRun, IsRunRefusal, left_in}
use Rattle.optplan_options.specs.Choices.{Choices}
use Rattle.optplan_search.specs.SearchEnds.{EndsOf, single}
use Rattle.optplan_search.specs.Schedules.{IsSimulated, IsSimulationRefusal}
use Rattle.optplan_search.specs.declared.fault.SearchFault.{SearchFault}
use Rattle.optplan_search.specs.declared.fault.SearchFault.TheVariants.{OutOfMemory, TotalTooLarge}

-- a space of the task, with columns of tables that partition the costs of its operators, the limit and the order among
-- nodes of the same f-value as chosen, and the states spread by a hash over `words`
pub record IsSpaceFor (task : FiniteDomainTask) (choices : Choices) (words : List ℕ) (space : SpaceOf spread.Zobrist) : Type 0 where
  pub task_is : space.task ≡ task
  pub divides : ∥ AreCostPartitioned task space.columns ∥₁
  pub spread_is : space.spread ≡ record { task = task; words = words }
  pub limit_is : space.limit ≡ choices.limit
  pub ties_are : space.ties ≡ choices.ties

-- a space of a single-threaded search, in which all variables are hashed
abbrev pub IsSimulatedSpace : FiniteDomainTask → Choices → SpaceOf spread.Zobrist → Type 0
IsSimulatedSpace task choices space = IsSpaceFor task choices (splitmix_words 1 (sum (ranges task))) space

-- the world as the end of a search
abbrev pub end_of : {S : Type 0} → WorldOf S → EndOf S
end_of w = record { space = w.space; owners = w.owners; left = left_in w }

-- ---- by a list of steps

-- the end of the world of the chosen number of owners after these steps, or before one of them that its owner's limit
-- does not allow
abbrev pub EndsAfter : Choices → List WorldStep → FiniteDomainTask → EndsOf spread.Zobrist → Type 0
EndsAfter choices steps task es =
    (space : SpaceOf spread.Zobrist) × IsSimulatedSpace task choices space
    × ((w : WorldOf spread.Zobrist) × IsRun zobrist_owner space choices.workers steps w × (es ≡ single (end_of w)))

-- a step is refused because its total is too large, or allocation failed
abbrev pub IsRefusedAfter : Choices → List WorldStep → FiniteDomainTask → SearchFault → Type 0
IsRefusedAfter choices steps task OutOfMemory = Unit {0}
IsRefusedAfter choices steps task TotalTooLarge =
    (space : SpaceOf spread.Zobrist) × IsSimulatedSpace task choices space
    × IsRunRefusal zobrist_owner space choices.workers steps owner_fault.TotalTooLarge

-- ---- by random steps

-- the end of the world of the chosen number of owners after random steps from the seed, at most as many as the options
-- allow
abbrev pub EndsBySeed : Choices → ℕ → FiniteDomainTask → EndsOf spread.Zobrist → Type 0
EndsBySeed choices seed task es =
    (space : SpaceOf spread.Zobrist) × IsSimulatedSpace task choices space
    × ((w : WorldOf spread.Zobrist) × IsSimulated zobrist_owner space choices.workers seed choices.steps w × (es ≡ single (end_of w)))

-- a random step from the seed is refused because its total is too large, or allocation failed
abbrev pub IsRefusedBySeed : Choices → ℕ → FiniteDomainTask → SearchFault → Type 0
IsRefusedBySeed choices seed task OutOfMemory = Unit {0}
IsRefusedBySeed choices seed task TotalTooLarge =
    (space : SpaceOf spread.Zobrist) × IsSimulatedSpace task choices space
    × IsSimulationRefusal zobrist_owner space choices.workers seed owner_fault.TotalTooLarge
