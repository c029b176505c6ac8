-- The tests of single closed states, by index. They pass if there is no state at the index.
use Rattle.std.specs.Prelude.{◌≡◌, ℕ, ◌<◌, Bool, true, false, ◌&&◌, List, slice_get, Option, Some, None}
use Rattle.std.specs.Option.{option_map_or}
use Rattle.fdr.specs.Tasks.{FiniteDomainTask, ranges}
use Rattle.cert_value.specs.Certificates.{Entry, CertificateValue}
use Rattle.checker_clauses.specs.declared.violation.Violation.{Violation}
use Rattle.checker_clauses.specs.declared.violation.Violation.TheVariants.{ClosedState, ClosedGoal, Successor}
use Rattle.checker_clauses.specs.Clauses.{is_state, is_behind, is_dear_if_goal, covers_successor}

-- whether the state is one of the task, and lexicographically greater than the one before it
abbrev pub passes_state : FiniteDomainTask → List Entry → ℕ → Bool
passes_state task closed i =
    option_map_or (λ e. is_state (ranges task) e.state && is_behind closed i e.state) (slice_get closed i) true

-- whether the state costs at least the bound, if it is a goal state
abbrev pub passes_goal : FiniteDomainTask → CertificateValue → ℕ → Bool
passes_goal task c i = option_map_or (is_dear_if_goal task c) (slice_get c.closed i) true

-- whether the successor under the operator, if there is one, is covered
abbrev pub passes_successor : FiniteDomainTask → CertificateValue → ℕ → ℕ → Bool
passes_successor task c i o = option_map_or (λ e. covers_successor task c e o) (slice_get c.closed i) true

-- the test passes for each number below n
abbrev pub PassesBelow : (ℕ → Bool) → ℕ → Type 0
PassesBelow test n = (i : ℕ) → i < n → test i ≡ true

-- the test passes for each number
abbrev pub PassesAll : (ℕ → Bool) → Type 0
PassesAll test = (i : ℕ) → test i ≡ true

-- for each number below n, its test passes for all numbers
abbrev pub PassesEach : (ℕ → ℕ → Bool) → ℕ → Type 0
PassesEach test n = (i : ℕ) → i < n → PassesAll (test i)

-- the first number for which the test fails, or none
abbrev pub IsFirstFailing : (ℕ → Bool) → Option ℕ → Type 0
IsFirstFailing test None = PassesAll test
IsFirstFailing test (Some i) = (test i ≡ false) × PassesBelow test i

-- the result of the clause C5 for the closed state at index `i`
abbrev pub says_state : FiniteDomainTask → CertificateValue → ℕ → Option Violation → Type 0
says_state task c i None = passes_state task c.closed i ≡ true
says_state task c i (Some v) = (v ≡ ClosedState i) × (passes_state task c.closed i ≡ false)

-- the result of the clause C7 for the closed state at index `i`
abbrev pub says_goal : FiniteDomainTask → CertificateValue → ℕ → Option Violation → Type 0
says_goal task c i None = passes_goal task c i ≡ true
says_goal task c i (Some v) = (v ≡ ClosedGoal i) × (passes_goal task c i ≡ false)

-- the result of the clause C8 for the closed state at index `i`: all its successors are covered, or the first that is
-- not
abbrev pub says_successor : FiniteDomainTask → CertificateValue → ℕ → Option Violation → Type 0
says_successor task c i None = PassesAll (passes_successor task c i)
says_successor task c i (Some v) = (o : ℕ) × (v ≡ Successor i o) × IsFirstFailing (passes_successor task c i) (Some o)
