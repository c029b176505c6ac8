-- Candidates: operators with the facts of their preconditions, which are ranges of one flat list of facts.
use Rattle.std.specs.Prelude.{◌≡◌, ℕ, ◌<◌, ◌≤◌, Bool, List, [], length, map, filter, take, drop, slice_get, slice_range, All}
use Rattle.std.specs.Option.{option_map_or}
use Rattle.std.specs.List.{list_all, range_with_len}
use Rattle.std.specs.List.Sorted.{IsPermutation}
use Rattle.fdr.specs.declared.fact.Fact.{Fact}
use Rattle.fdr.specs.Tasks.{FiniteDomainTask, applies_at, holds}
use Rattle.fdr_successors.specs.declared.candidate.Candidate.{Candidate}

-- whether each of the facts holds
abbrev pub all_hold : List ℕ → List Fact → Bool
all_hold state facts = list_all (holds state) facts

-- the facts of the candidate's precondition
abbrev pub facts_of : List Fact → Candidate → List Fact
facts_of facts c = slice_range facts c.first c.end

-- the facts of the candidate at index `place`
abbrev pub facts_at : List Fact → List Candidate → ℕ → List Fact
facts_at facts candidates place = option_map_or (facts_of facts) (slice_get candidates place) []

-- the candidate's facts are a range of a list of `count` facts
pub record IsPlaced (count : ℕ) (c : Candidate) : Type 0 where
  pub rising : c.first ≤ c.end
  pub within : c.end ≤ count

-- the candidate's facts are a range of the list, and the operator applies exactly if they hold
pub record IsCandidate (task : FiniteDomainTask) (facts : List Fact) (c : Candidate) : Type 0 where
  pub placed : IsPlaced (length facts) c
  pub applies : (state : List ℕ) → applies_at task c.operator state ≡ all_hold state (facts_of facts c)

abbrev pub numbers_of : List Candidate → List ℕ
numbers_of candidates = map (λ c. c.operator) candidates

-- each operator is a candidate once, and the facts of the list are on variables that exist
pub record IsListing (task : FiniteDomainTask) (facts : List Fact) (candidates : List Candidate) : Type 0 where
  pub numbers : IsPermutation (range_with_len 0 (length task.operators)) (numbers_of candidates)
  pub each : All (IsCandidate task facts) candidates
  pub row : All (λ f. f.variable < length task.value_names) facts

-- ---- what is found

-- whether the facts after the first `tested` hold
abbrev pub passes : List Fact → ℕ → List ℕ → Candidate → Bool
passes facts tested state c = all_hold state (drop tested (facts_of facts c))

-- the numbers of the candidates that apply, among those before index `place`
abbrev pub found_before : List Fact → List Candidate → List ℕ → ℕ → List ℕ
found_before facts candidates state place = numbers_of (filter (passes facts 0 state) (take place candidates))
