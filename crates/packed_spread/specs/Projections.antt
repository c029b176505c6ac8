-- Hashes of only those variables that operators seldom change, so that most successors have the owner of their parent:
-- states that a projection does not distinguish have one owner (Burns, Lemons, Ruml and Zhou 2010; Jinnai and Fukunaga
-- 2017).
use Rattle.std.specs.Prelude.{ℕ, zero, suc, ◌+◌, ◌*◌, ◌/◌, ◌^◌, ◌-◌, ◌==◌, ◌&&◌, Bool, true, not, if◌then◌else◌, nat_lt, min, List, [], ◌∷◌, ◌++◌, length, take, replicate, slice_index, slice_set, fold, sum, Option, None, Some}
use Rattle.std.specs.List.{range_with_len, list_any}
use Rattle.fdr.specs.declared.fact.Fact.{Fact}
use Rattle.fdr.specs.Tasks.{FiniteDomainTask, Operator, ranges}
use Rattle.packed_spread.specs.Spreads.{splitmix_words}

-- ---- how often variables change

-- in how many of 2^32 states an operator applies if each variable has each of its values equally often, independently
-- of the others. Each quotient is rounded down.
abbrev pub frequency : List ℕ → Operator → ℕ
frequency ranges op = fold (λ states f. states / slice_index ranges f.variable) (2 ^ 32) op.precondition

-- the sums with `states` added to that of each variable that one of the facts is on, capped at 2^64 - 1
abbrev pub with_changes : ℕ → List ℕ → List Fact → List ℕ
with_changes states sums facts = fold (λ s f. slice_set s f.variable (min (slice_index s f.variable + states) (2 ^ 64 - 1))) sums facts

-- for each variable the sum of the frequencies of the operators that change it
abbrev pub changes : FiniteDomainTask → List ℕ
changes task =
    fold (λ sums op. with_changes (frequency (ranges task) op) sums op.effect) (replicate (length task.value_names) 0) task.operators

-- ---- the variables of the projection

-- whether a variable is in the list
abbrev pub is_among : List ℕ → ℕ → Bool
is_among chosen variable = list_any (λ v. v == variable) chosen

-- whether a variable changes less often than the best one so far
abbrev pub is_better : List ℕ → ℕ → Option ℕ → Bool
is_better changes variable None = true
is_better changes variable (Some best) = nat_lt (slice_index changes variable) (slice_index changes best)

-- the better one of the best so far and `variable`, which is no candidate if it has been chosen or has only one value
abbrev pub better_of : List ℕ → List ℕ → List ℕ → Option ℕ → ℕ → Option ℕ
better_of ranges changes chosen best variable =
    if not (is_among chosen variable) && nat_lt 1 (slice_index ranges variable) && is_better changes variable best
    then Some variable
    else best

-- of the variables with several values that have not been chosen, the first of those that change least often
abbrev pub next_variable : List ℕ → List ℕ → List ℕ → Option ℕ
next_variable ranges changes chosen = fold (better_of ranges changes chosen) None (range_with_len 0 (length ranges))

-- the number of states that the values of the chosen variables distinguish, capped at 2^64 - 1
abbrev pub classes : List ℕ → List ℕ → ℕ
classes ranges chosen = fold (λ n variable. min (n * slice_index ranges variable) (2 ^ 64 - 1)) 1 chosen

-- the number of states that a projection has to distinguish: 2^20, or a quarter of all that the variables distinguish
-- if that is less
abbrev pub wanted : List ℕ → ℕ
wanted ranges = min (2 ^ 20) (classes ranges (range_with_len 0 (length ranges)) / 4)

-- the chosen variables with the next one, if there is one
abbrev pub with_next : List ℕ → Option ℕ → List ℕ
with_next chosen None = chosen
with_next chosen (Some variable) = chosen ++ variable ∷ []

-- the chosen variables with one more, if they distinguish fewer states than wanted
abbrev pub one_more : List ℕ → List ℕ → List ℕ → List ℕ
one_more ranges changes chosen =
    if nat_lt (classes ranges chosen) (wanted ranges) then with_next chosen (next_variable ranges changes chosen) else chosen

-- the variables that are chosen one after the other, in `rounds` rounds
abbrev pub chosen_in : ℕ → List ℕ → List ℕ → List ℕ
chosen_in zero ranges changes = []
chosen_in (suc rounds) ranges changes = one_more ranges changes (chosen_in rounds ranges changes)

-- The variables of the projection: those that change least often, as many as distinguish the wanted number of states.
-- Each of them has two values or more, so that 20 suffice.
abbrev pub projection : FiniteDomainTask → List ℕ
projection task = chosen_in 20 (ranges task) (changes task)

-- ---- the words

-- the list with 0 at `count` indices from `first` on
abbrev pub cleared : List ℕ → ℕ → ℕ → List ℕ
cleared words first count = fold (λ ws value. slice_set ws (first + value) 0) words (range_with_len 0 count)

-- the words with 0 for each value of a variable that is not in the list
abbrev pub cleared_unless : List ℕ → List ℕ → List ℕ → ℕ → List ℕ
cleared_unless ranges chosen words variable =
    if is_among chosen variable then words else cleared words (sum (take variable ranges)) (slice_index ranges variable)

-- the words of the projection's variables, and 0 for each value of the others
abbrev pub projected : List ℕ → List ℕ → List ℕ → List ℕ
projected ranges chosen words = fold (cleared_unless ranges chosen) words (range_with_len 0 (length ranges))

-- the words of the spread by the projection of a task
abbrev pub projected_words : FiniteDomainTask → List ℕ
projected_words task = projected (ranges task) (projection task) (splitmix_words 1 (sum (ranges task)))
