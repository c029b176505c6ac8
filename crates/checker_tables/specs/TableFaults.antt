-- Faults of a table of a column.
use Rattle.std.specs.Prelude.{◌≡◌, ℕ, ◌+◌, ◌<◌, zero, suc, Bool, true, false, if◌then◌else◌, List, [], ◌∷◌, slice_index_or, Option, Some, None}
use Rattle.std.specs.Option.{option_map_or}
use Rattle.cost.specs.Distances.{Distance, Finite, Infinite, ◌+ᵈ◌, is_at_most}
use Rattle.fdr.specs.Tasks.{FiniteDomainTask}
use Rattle.abstraction.specs.Abstractions as abstraction
use Rattle.cert_value.specs.Certificates.{Table}
use Rattle.checker_clauses.specs.declared.violation.Violation.{Violation}
use Rattle.checker_clauses.specs.declared.violation.Violation.TheVariants as violation
use Rattle.checker_clauses.specs.Clauses.{abstraction_of, has_form, is_zero, is_goal_at_zero, falls_within_share, comes_before}
use Rattle.checker_tables.specs.declared.fault.TableFault.{TableFault}
use Rattle.checker_tables.specs.declared.fault.TableFault.TheVariants.{Form, Goal, Fall}
use Rattle.checker_tables.specs.declared.transitions.Spender.{Spender}

-- the table has this fault
abbrev pub Fails : FiniteDomainTask → Table → TableFault → Type 0
Fails task t Form = has_form task t ≡ false
Fails task t (Goal a) = (a < (abstraction_of task t).size) × (is_goal_at_zero task t a ≡ false)
Fails task t (Fall a o) = (a < (abstraction_of task t).size) × (falls_within_share task t a o ≡ false)

-- the order of a table's faults: its form comes first, then its abstract goals, then its transitions
abbrev pub place_of : TableFault → List ℕ
place_of Form = 0 ∷ []
place_of (Goal a) = 1 ∷ a ∷ []
place_of (Fall a o) = 2 ∷ a ∷ o ∷ []

-- the first fault of the table, or none
abbrev pub IsFirstFault : FiniteDomainTask → Table → Option TableFault → Type 0
IsFirstFault task t None = (f : TableFault) → Fails task t f → ⊥
IsFirstFault task t (Some f) =
    Fails task t f × ((g : TableFault) → Fails task t g → comes_before (place_of g) (place_of f) ≡ false)

-- the violation for table `j` of column `i` with this fault
abbrev pub violation_at : ℕ → ℕ → TableFault → Violation
violation_at i j Form = violation.TableForm i j
violation_at i j (Goal a) = violation.GoalValue i j a
violation_at i j (Fall a o) = violation.Fall i j a o

-- ---- abstractions

-- an abstract goal has the value 0
abbrev pub has_goal_value : abstraction.Abstraction → List Distance → ℕ → Bool
has_goal_value abs values a = if abs.is_goal a then is_zero (slice_index_or values a Infinite) else true

-- the operator lowers the value of the abstract state by at most the share
abbrev pub falls_within : abstraction.Abstraction → List Distance → ℕ → ℕ → ℕ → Bool
falls_within abs values a o share =
    option_map_or (λ b. is_at_most (slice_index_or values a Infinite) (Finite share +ᵈ slice_index_or values b Infinite))
    (abs.transition a o) true

-- the value of `a` in `values` exceeds that of `b` in `nexts` by at most the share
abbrev pub is_fall_within : List Distance → List Distance → ℕ → ℕ → ℕ → Bool
is_fall_within values nexts share a b =
    is_at_most (slice_index_or values a Infinite) (Finite share +ᵈ slice_index_or nexts b Infinite)

-- those of the `count` operators from `o` on that affect the abstraction
abbrev pub touching_from : (ℕ → Bool) → ℕ → ℕ → List ℕ
touching_from touches o zero = []
touching_from touches o (suc count) =
    if touches o then o ∷ touching_from touches (o + 1) count else touching_from touches (o + 1) count

-- the operator with its share
abbrev pub spender_of : (ℕ → ℕ) → ℕ → Spender
spender_of share o = record { operator = o; share = share o }

-- the first operator that fails the test
abbrev pub first_failing : (Spender → Bool) → List Spender → Option ℕ
first_failing test [] = None
first_failing test (s ∷ ss) = if test s then first_failing test ss else Some s.operator

-- the first operator that lowers the value of the abstract state by more than its share
abbrev pub first_fall_at : abstraction.Abstraction → List Distance → List Spender → ℕ → Option ℕ
first_fall_at abs values spenders a = first_failing (λ s. falls_within abs values a s.operator s.share) spenders

-- the first abstract goal with a value other than 0, or none
abbrev pub IsFirstGoal : abstraction.Abstraction → List Distance → Option ℕ → Type 0
IsFirstGoal abs values None = (a : ℕ) → a < abs.size → has_goal_value abs values a ≡ true
IsFirstGoal abs values (Some state) =
    (state < abs.size) × (has_goal_value abs values state ≡ false) × ((a : ℕ) → a < state → has_goal_value abs values a ≡ true)

-- the first abstract state whose value some operator lowers by more than its share, with the first operator that does,
-- or none
abbrev pub IsFirstFall : abstraction.Abstraction → List Distance → List Spender → Option (ℕ × ℕ) → Type 0
IsFirstFall abs values spenders None = (a : ℕ) → a < abs.size → first_fall_at abs values spenders a ≡ None
IsFirstFall abs values spenders (Some fall) =
    (fall.0 < abs.size) × (first_fall_at abs values spenders fall.0 ≡ Some fall.1)
    × ((a : ℕ) → a < fall.0 → first_fall_at abs values spenders a ≡ None)
