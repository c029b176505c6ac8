-- Certificates with classes for a road with a lamp, and that a certificate without classes has no violation of C0.
use Rattle.std.proofs.Common.{◌≡◌, ℕ, zero, suc, ◌<◌, true, false, List, [], ◌∷◌, length, refl, ap, arith, true≢false}
use Rattle.cost.specs.Distances.{Finite}
use Rattle.fdr.specs.Tasks.{FiniteDomainTask}
use Rattle.reduction_classes.specs.Lamp.{road_with_lamp}
use Rattle.cert_value.specs.Certificates.{CertificateValue}
use Rattle.checker_clauses.specs.declared.violation.Violation.{Violation}
use Rattle.checker_clauses.specs.declared.violation.Violation.TheVariants.{Classes, Shares, TableForm, GoalValue, Fall, ClosedState, Start, ClosedGoal, Successor}
use Rattle.checker_clauses.specs.Clauses.{comes_before}
use Rattle.checker_clauses.specs.Violations.{clause_of, place_of, clause_task, Violates, IsMet, IsFirstViolation, IsHeld}
use Rattle.checker_clauses.specs.Examples.{reached, with_closed, with_classes, locations, first_two_merged, lamp_merged}
use Rattle.checker_clauses.proofs.FirstViolations.{first_if}

pub met_without_classes : (task : FiniteDomainTask) (c : CertificateValue) → c.classes ≡ [] → IsMet task c 0
met_without_classes task c none (Classes v) k bad = let empty = ap length none in omega (arith, empty, bad.0)
met_without_classes task c none (Shares i o) k bad = absurd (omega (arith, k))
met_without_classes task c none (TableForm i j) k bad = absurd (omega (arith, k))
met_without_classes task c none (GoalValue i j a) k bad = absurd (omega (arith, k))
met_without_classes task c none (Fall i j a o) k bad = absurd (omega (arith, k))
met_without_classes task c none (ClosedState i) k bad = absurd (omega (arith, k))
met_without_classes task c none Start k bad = absurd (omega (arith, k))
met_without_classes task c none (ClosedGoal i) k bad = absurd (omega (arith, k))
met_without_classes task c none (Successor i o) k bad = absurd (omega (arith, k))

-- the certificate for the road has this violation
abbrev Fails : CertificateValue → Violation → Type 0
Fails c v = Violates (clause_task road_with_lamp c (clause_of v)) c v

-- no violation of the clause of `v` comes before it, and none is of an earlier clause
abbrev IsNotBefore : CertificateValue → Violation → Type 0
IsNotBefore c v = (w : Violation) → clause_of w ≡ clause_of v → Fails c w → comes_before (place_of w) (place_of v) ≡ false

abbrev AreMetBefore : CertificateValue → ℕ → Type 0
AreMetBefore c k = (w : Violation) → clause_of w < k → Fails c w → ⊥

pub lamp_left_out : IsHeld road_with_lamp (with_classes (Finite 2) (locations ∷ lamp_merged ∷ []) (reached 0 0 ∷ reached 1 1 ∷ []))
lamp_left_out (Classes zero) bad = true≢false bad.1
lamp_left_out (Classes (suc zero)) bad = true≢false bad.1
lamp_left_out (Classes (suc (suc v))) bad = true≢false bad.1
lamp_left_out (Shares i o) bad = bad
lamp_left_out (TableForm i j) bad = bad
lamp_left_out (GoalValue i j a) bad = bad
lamp_left_out (Fall i j a o) bad = bad
lamp_left_out (ClosedState zero) bad = true≢false bad
lamp_left_out (ClosedState (suc zero)) bad = true≢false bad
lamp_left_out (ClosedState (suc (suc i))) bad = bad
lamp_left_out Start bad = true≢false bad
lamp_left_out (ClosedGoal zero) bad = true≢false bad
lamp_left_out (ClosedGoal (suc zero)) bad = true≢false bad
lamp_left_out (ClosedGoal (suc (suc i))) bad = bad
lamp_left_out (Successor zero zero) bad = true≢false bad
lamp_left_out (Successor zero (suc zero)) bad = true≢false bad
lamp_left_out (Successor zero (suc (suc zero))) bad = true≢false bad
lamp_left_out (Successor zero (suc (suc (suc zero)))) bad = true≢false bad
lamp_left_out (Successor zero (suc (suc (suc (suc o))))) bad = true≢false bad
lamp_left_out (Successor (suc zero) zero) bad = true≢false bad
lamp_left_out (Successor (suc zero) (suc zero)) bad = true≢false bad
lamp_left_out (Successor (suc zero) (suc (suc zero))) bad = true≢false bad
lamp_left_out (Successor (suc zero) (suc (suc (suc zero)))) bad = true≢false bad
lamp_left_out (Successor (suc zero) (suc (suc (suc (suc o))))) bad = true≢false bad
lamp_left_out (Successor (suc (suc i)) o) bad = bad

pub locations_merged : IsHeld road_with_lamp (with_classes (Finite 1) (first_two_merged ∷ lamp_merged ∷ []) (reached 0 0 ∷ []))
locations_merged (Classes zero) bad = true≢false bad.1
locations_merged (Classes (suc zero)) bad = true≢false bad.1
locations_merged (Classes (suc (suc v))) bad = true≢false bad.1
locations_merged (Shares i o) bad = bad
locations_merged (TableForm i j) bad = bad
locations_merged (GoalValue i j a) bad = bad
locations_merged (Fall i j a o) bad = bad
locations_merged (ClosedState zero) bad = true≢false bad
locations_merged (ClosedState (suc i)) bad = bad
locations_merged Start bad = true≢false bad
locations_merged (ClosedGoal zero) bad = true≢false bad
locations_merged (ClosedGoal (suc i)) bad = bad
locations_merged (Successor zero zero) bad = true≢false bad
locations_merged (Successor zero (suc zero)) bad = true≢false bad
locations_merged (Successor zero (suc (suc zero))) bad = true≢false bad
locations_merged (Successor zero (suc (suc (suc zero)))) bad = true≢false bad
locations_merged (Successor zero (suc (suc (suc (suc o))))) bad = true≢false bad
locations_merged (Successor (suc i) o) bad = bad

abbrev too_cheap : CertificateValue
too_cheap = with_classes (Finite 2) (first_two_merged ∷ lamp_merged ∷ []) (reached 0 0 ∷ reached 1 1 ∷ [])

too_cheap_first : IsNotBefore too_cheap (ClosedGoal 1)
too_cheap_first (ClosedGoal zero) e bad = absurd (true≢false bad)
too_cheap_first (ClosedGoal (suc zero)) e bad = refl
too_cheap_first (ClosedGoal (suc (suc i))) e bad = absurd bad
too_cheap_first (Classes v) e bad = absurd (omega (arith, e))
too_cheap_first (Shares i o) e bad = absurd (omega (arith, e))
too_cheap_first (TableForm i j) e bad = absurd (omega (arith, e))
too_cheap_first (GoalValue i j a) e bad = absurd (omega (arith, e))
too_cheap_first (Fall i j a o) e bad = absurd (omega (arith, e))
too_cheap_first (ClosedState i) e bad = absurd (omega (arith, e))
too_cheap_first Start e bad = absurd (omega (arith, e))
too_cheap_first (Successor i o) e bad = absurd (omega (arith, e))

too_cheap_before : AreMetBefore too_cheap 7
too_cheap_before (Classes zero) l bad = true≢false bad.1
too_cheap_before (Classes (suc zero)) l bad = true≢false bad.1
too_cheap_before (Classes (suc (suc v))) l bad = true≢false bad.1
too_cheap_before (Shares i o) l bad = bad
too_cheap_before (TableForm i j) l bad = bad
too_cheap_before (GoalValue i j a) l bad = bad
too_cheap_before (Fall i j a o) l bad = bad
too_cheap_before (ClosedState zero) l bad = true≢false bad
too_cheap_before (ClosedState (suc zero)) l bad = true≢false bad
too_cheap_before (ClosedState (suc (suc i))) l bad = bad
too_cheap_before Start l bad = true≢false bad
too_cheap_before (ClosedGoal i) l bad = omega (arith, l)
too_cheap_before (Successor i o) l bad = omega (arith, l)

pub merged_goal : IsFirstViolation road_with_lamp too_cheap (ClosedGoal 1)
merged_goal = first_if road_with_lamp too_cheap (ClosedGoal 1) refl too_cheap_first too_cheap_before

-- no clause comes before C0
none_before : (c : CertificateValue) → AreMetBefore c 0
none_before c w l bad = omega (arith, l)

abbrev row_missing_value : CertificateValue
row_missing_value = with_classes (Finite 1) (first_two_merged ∷ []) (reached 0 0 ∷ [])

row_missing_first : IsNotBefore row_missing_value (Classes 1)
row_missing_first (Classes zero) e bad = absurd (true≢false bad.1)
row_missing_first (Classes (suc zero)) e bad = refl
row_missing_first (Classes (suc (suc v))) e bad = absurd (true≢false bad.1)
row_missing_first (Shares i o) e bad = absurd (omega (arith, e))
row_missing_first (TableForm i j) e bad = absurd (omega (arith, e))
row_missing_first (GoalValue i j a) e bad = absurd (omega (arith, e))
row_missing_first (Fall i j a o) e bad = absurd (omega (arith, e))
row_missing_first (ClosedState i) e bad = absurd (omega (arith, e))
row_missing_first Start e bad = absurd (omega (arith, e))
row_missing_first (ClosedGoal i) e bad = absurd (omega (arith, e))
row_missing_first (Successor i o) e bad = absurd (omega (arith, e))

pub row_missing : IsFirstViolation road_with_lamp row_missing_value (Classes 1)
row_missing = first_if road_with_lamp row_missing_value (Classes 1) (omega arith, refl) row_missing_first (none_before row_missing_value)

abbrev variable_missing_value : CertificateValue
variable_missing_value = with_classes (Finite 1) (first_two_merged ∷ lamp_merged ∷ (0 ∷ []) ∷ []) (reached 0 0 ∷ [])

variable_missing_first : IsNotBefore variable_missing_value (Classes 2)
variable_missing_first (Classes zero) e bad = absurd (true≢false bad.1)
variable_missing_first (Classes (suc zero)) e bad = absurd (true≢false bad.1)
variable_missing_first (Classes (suc (suc zero))) e bad = refl
variable_missing_first (Classes (suc (suc (suc v)))) e bad = absurd (true≢false bad.1)
variable_missing_first (Shares i o) e bad = absurd (omega (arith, e))
variable_missing_first (TableForm i j) e bad = absurd (omega (arith, e))
variable_missing_first (GoalValue i j a) e bad = absurd (omega (arith, e))
variable_missing_first (Fall i j a o) e bad = absurd (omega (arith, e))
variable_missing_first (ClosedState i) e bad = absurd (omega (arith, e))
variable_missing_first Start e bad = absurd (omega (arith, e))
variable_missing_first (ClosedGoal i) e bad = absurd (omega (arith, e))
variable_missing_first (Successor i o) e bad = absurd (omega (arith, e))

pub variable_missing : IsFirstViolation road_with_lamp variable_missing_value (Classes 2)
variable_missing = first_if road_with_lamp variable_missing_value (Classes 2) (omega arith, refl) variable_missing_first (none_before variable_missing_value)

abbrev another_range_value : CertificateValue
another_range_value = with_classes (Finite 2) (locations ∷ (0 ∷ 0 ∷ 0 ∷ []) ∷ []) (reached 0 0 ∷ reached 1 1 ∷ [])

another_range_first : IsNotBefore another_range_value (Classes 1)
another_range_first (Classes zero) e bad = absurd (true≢false bad.1)
another_range_first (Classes (suc zero)) e bad = refl
another_range_first (Classes (suc (suc v))) e bad = absurd (true≢false bad.1)
another_range_first (Shares i o) e bad = absurd (omega (arith, e))
another_range_first (TableForm i j) e bad = absurd (omega (arith, e))
another_range_first (GoalValue i j a) e bad = absurd (omega (arith, e))
another_range_first (Fall i j a o) e bad = absurd (omega (arith, e))
another_range_first (ClosedState i) e bad = absurd (omega (arith, e))
another_range_first Start e bad = absurd (omega (arith, e))
another_range_first (ClosedGoal i) e bad = absurd (omega (arith, e))
another_range_first (Successor i o) e bad = absurd (omega (arith, e))

pub another_range : IsFirstViolation road_with_lamp another_range_value (Classes 1)
another_range = first_if road_with_lamp another_range_value (Classes 1) (omega arith, refl) another_range_first (none_before another_range_value)

abbrev whole_value : CertificateValue
whole_value = with_closed (Finite 2) (reached 0 0 ∷ reached 1 1 ∷ [])

whole_first : IsNotBefore whole_value (ClosedState 0)
whole_first (ClosedState zero) e bad = refl
whole_first (ClosedState (suc zero)) e bad = refl
whole_first (ClosedState (suc (suc i))) e bad = absurd bad
whole_first (Classes v) e bad = absurd (omega (arith, e))
whole_first (Shares i o) e bad = absurd (omega (arith, e))
whole_first (TableForm i j) e bad = absurd (omega (arith, e))
whole_first (GoalValue i j a) e bad = absurd (omega (arith, e))
whole_first (Fall i j a o) e bad = absurd (omega (arith, e))
whole_first Start e bad = absurd (omega (arith, e))
whole_first (ClosedGoal i) e bad = absurd (omega (arith, e))
whole_first (Successor i o) e bad = absurd (omega (arith, e))

whole_before : AreMetBefore whole_value 5
whole_before (Classes v) l bad = omega (arith, bad.0)
whole_before (Shares i o) l bad = bad
whole_before (TableForm i j) l bad = bad
whole_before (GoalValue i j a) l bad = bad
whole_before (Fall i j a o) l bad = bad
whole_before (ClosedState i) l bad = omega (arith, l)
whole_before Start l bad = omega (arith, l)
whole_before (ClosedGoal i) l bad = omega (arith, l)
whole_before (Successor i o) l bad = omega (arith, l)

pub not_reduced : IsFirstViolation road_with_lamp whole_value (ClosedState 0)
not_reduced = first_if road_with_lamp whole_value (ClosedState 0) refl whole_first whole_before
