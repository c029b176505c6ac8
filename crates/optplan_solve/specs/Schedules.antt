-- The ends that a search by a schedule may have, and why it may be refused.
use Rattle.std.specs.Prelude.{◌≡◌, ℕ, ◌⊎◌, Some}
use Rattle.fdr.specs.Tasks.{FiniteDomainTask}
use Rattle.packed_spread.specs.Spreads as spread
use Rattle.optplan_search.specs.SearchEnds.{EndsOf}
use Rattle.engine_round.specs.Turns.{MayStop}
use Rattle.engine_round.specs.declared.gate.Stop.{Stop}
use Rattle.engine_round.specs.declared.gate.Stop.TheVariants.{Fail, Limit, Stage}
use Rattle.optplan_options.specs.Choices.{Choices}
use Rattle.optplan_search.specs.Searches.{EndsBySeed, IsRefusedBySeed}
use Rattle.optplan_solver.specs.ThreadedSearches.{EndsByThreads, IsRefusedByThreads}
use Rattle.optplan_search.specs.declared.fault.SearchFault.{SearchFault}
use Rattle.optplan_solve.specs.declared.settings.Watch.{Watch}
use Rattle.optplan_solve.specs.declared.settings.Schedule.{Schedule}
use Rattle.optplan_solve.specs.declared.settings.Schedule.TheVariants.{Threads, Drawn}

-- seconds or a memory are specified
abbrev pub IsLimited : Watch → Type 0
IsLimited watch = ((s : ℕ) × (watch.seconds ≡ Some s)) ⊎ ((m : ℕ) × (watch.mebibytes ≡ Some m))

-- how a search with these external limits may be ended: as at a limit, before any turn of any worker, and only if
-- seconds or a memory are specified
abbrev pub ends_in : Watch → MayStop
ends_in watch worker turn stop = (stop ≡ Limit) × IsLimited watch

-- the search fails
abbrev pub IsFailure : Stop → Type 0
IsFailure Fail = Unit {0}
IsFailure Limit = ⊥
IsFailure Stage = ⊥

-- the ends of the searches for a task: with threads, within the seconds and the memory if these are specified, or of
-- one by random steps from a seed
abbrev pub EndsBy : Choices → Schedule → FiniteDomainTask → EndsOf spread.Zobrist → Type 0
EndsBy choices (Threads watch) = EndsByThreads choices (ends_in watch)
EndsBy choices (Drawn seed) = EndsBySeed choices seed

-- the reason why a search by a schedule may be refused
abbrev pub IsRefusedBy : Choices → Schedule → FiniteDomainTask → SearchFault → Type 0
IsRefusedBy choices (Threads watch) = IsRefusedByThreads choices (ends_in watch)
IsRefusedBy choices (Drawn seed) = IsRefusedBySeed choices seed
