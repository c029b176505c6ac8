-- The ends that multi-threaded searches for a task may have, one alone or several in stages, of the task or of what a
-- reduction leaves of it, and why they may be refused.
use Rattle.std.specs.Prelude.{◌≡◌, ◌≢◌, ℕ, ◌≤◌, ◌⊎◌, true, false, Bool, List, [], length, sum, All, not, nat_lt, if◌then◌else◌}
use Rattle.fdr.specs.Tasks.{FiniteDomainTask, ranges}
use Rattle.packed_spread.specs.Spreads as spread
use Rattle.packed_spread.specs.Spreads.{zobrist_owner, splitmix_words}
use Rattle.packed_spread.specs.Projections.{projected_words}
use Rattle.owner.specs.Spaces.{SpaceOf}
use Rattle.extract.specs.Ends.{EndOf}
use Rattle.engine_round.specs.Turns.{MayStop}
use Rattle.engine_round.specs.declared.gate.Stop.TheVariants.{Fail, Limit, Stage}
use Rattle.engine.specs.Searches.{IsSearched, IsSearchFault}
use Rattle.engine.specs.declared.searched.Cause.{Cause}
use Rattle.engine.specs.declared.searched.Cause.TheVariants as cause
use Rattle.engine.specs.declared.searched.Searched.TheVariants.{Settled, Stopped}
use Rattle.engine.specs.declared.fault.EngineFault.TheVariants as engine
use Rattle.reduction.specs.Reductions.{IsReduction, retained_task}
use Rattle.optplan_options.specs.Choices.{Choices}
use Rattle.optplan_options.specs.declared.options.Tables.{Tables}
use Rattle.optplan_options.specs.declared.options.Tables.TheVariants.{Goal, Staged}
use Rattle.optplan_search.specs.SearchEnds.{EndsOf}
use Rattle.optplan_search.specs.Searches.{IsSpaceFor}
use Rattle.optplan_search.specs.declared.fault.SearchFault.{SearchFault}
use Rattle.optplan_search.specs.declared.fault.SearchFault.TheVariants.{OutOfMemory, TotalTooLarge}

-- the variables of the task have at most 20 values together
abbrev pub has_few_values : FiniteDomainTask → Bool
has_few_values task = not (nat_lt 20 (sum (ranges task)))

-- the words of a multi-threaded search: of all variables if these have few values, else of those of a projection
abbrev pub threaded_words : FiniteDomainTask → List ℕ
threaded_words task = if has_few_values task then splitmix_words 1 (sum (ranges task)) else projected_words task

-- a space of a multi-threaded search
abbrev pub IsThreadedSpace : FiniteDomainTask → Choices → SpaceOf spread.Zobrist → Type 0
IsThreadedSpace task choices space = IsSpaceFor task choices (threaded_words task) space

-- ---- one search, or several in stages

-- the end of a search by the chosen number of workers, whose owners are settled, or were stopped before that, but not
-- because a stage ended; the form of their states makes no difference
abbrev pub IsThreadedEnd : Choices → MayStop → FiniteDomainTask → EndOf spread.Zobrist → Type 0
IsThreadedEnd choices may_stop task e =
    (space : SpaceOf spread.Zobrist) × IsThreadedSpace task choices space
    × (IsSearched {F = Unit {0}} zobrist_owner may_stop space choices.workers (Settled e)
    ⊎ ((why : Cause) × (why ≢ cause.Stage) × IsSearched {F = Unit {0}} zobrist_owner may_stop space choices.workers (Stopped e why)))

-- the end of a search by the chosen number of workers that was stopped because a stage ended
abbrev pub IsStageEnd : Choices → MayStop → FiniteDomainTask → EndOf spread.Zobrist → Type 0
IsStageEnd choices may_stop task e =
    (space : SpaceOf spread.Zobrist) × IsThreadedSpace task choices space
    × IsSearched {F = Unit {0}} zobrist_owner may_stop space choices.workers (Stopped e cause.Stage)

-- how the search of a stage may be stopped: as the caller's gate may stop it, and by the stage's end, if it has one
abbrev pub stops_in : Bool → MayStop → MayStop
stops_in has_end may_stop worker turn Fail = may_stop worker turn Fail
stops_in has_end may_stop worker turn Limit = may_stop worker turn Limit
stops_in has_end may_stop worker turn Stage = has_end ≡ true

-- the ends of the searches before the last: none, or those of at most three stages
abbrev pub AreEarlier : Tables → Choices → MayStop → FiniteDomainTask → List (EndOf spread.Zobrist) → Type 0
AreEarlier Goal choices may_stop task es = es ≡ []
AreEarlier Staged choices may_stop task es =
    (length es ≤ 3) × All (IsStageEnd choices (stops_in true may_stop) task) es

-- the ends of searches by the chosen number of workers, of one alone or in stages: the last one was not stopped because
-- a stage ended, and each one before it was
abbrev pub EndsIn : Tables → Choices → MayStop → FiniteDomainTask → EndsOf spread.Zobrist → Type 0
EndsIn tables choices may_stop task es = IsThreadedEnd choices may_stop task es.last × AreEarlier tables choices may_stop task es.earlier

-- a search of the task by the chosen number of workers fails for this fault, or allocation failed
abbrev pub IsRefusedIn : Choices → MayStop → FiniteDomainTask → SearchFault → Type 0
IsRefusedIn choices may_stop task OutOfMemory = Unit {0}
IsRefusedIn choices may_stop task TotalTooLarge =
    (space : SpaceOf spread.Zobrist) × IsThreadedSpace task choices space
    × IsSearchFault zobrist_owner may_stop space choices.workers engine.TotalTooLarge

-- ---- of the task, or of the task that it is reduced to

-- the task that is searched for a task: itself, or what its reduction leaves of it
abbrev pub IsSearchedFor : Bool → FiniteDomainTask → FiniteDomainTask → Type 0
IsSearchedFor false task searched = searched ≡ task
IsSearchedFor true task searched =
    (classes : List (List ℕ)) × ((retained : List ℕ) × IsReduction task classes retained × (searched ≡ retained_task task classes retained))

-- the ends of searches by the chosen number of workers, of one alone or in stages, with a reduction or without, as
-- chosen
abbrev pub EndsByThreads : Choices → MayStop → FiniteDomainTask → EndsOf spread.Zobrist → Type 0
EndsByThreads choices may_stop task es =
    (searched : FiniteDomainTask) × IsSearchedFor choices.reduction task searched × EndsIn choices.tables choices may_stop searched es

-- a search by the chosen number of workers, with a reduction or without, as chosen, fails for this fault, or allocation
-- failed
abbrev pub IsRefusedByThreads : Choices → MayStop → FiniteDomainTask → SearchFault → Type 0
IsRefusedByThreads choices may_stop task OutOfMemory = Unit {0}
IsRefusedByThreads choices may_stop task TotalTooLarge =
    (searched : FiniteDomainTask) × IsSearchedFor choices.reduction task searched × IsRefusedIn choices may_stop searched TotalTooLarge
