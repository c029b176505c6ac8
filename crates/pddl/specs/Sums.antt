-- Upper bounds on the costs of actions.
use Rattle.std.specs.Prelude.{◌≡◌, ℕ, ◌==◌, ◌&&◌, nat_lt, if◌then◌else◌, List, [], ◌∷◌, sum_by, unwrap_or}
use Rattle.std.specs.Map.{lookup}
use Rattle.pddl_task.specs.declared.schema.Increase.{Increase}
use Rattle.pddl_task.specs.declared.schema.Increase.TheVariants.{Amount, Value}
use Rattle.pddl_task.specs.Planning.{Schema, FunctionValue}
use Rattle.pddl_syntax.specs.declared.fault.Fault.{Fault}
use Rattle.pddl_syntax.specs.declared.fault.FaultKind.TheVariants.{CostRange}
use Rattle.pddl_syntax.specs.Faults.{fault, faults_if}
use Rattle.pddl_task.specs.Limits.{max_cost}

-- the value of `v`, if `v` is a value of this function and greater than `known`, otherwise `known`
abbrev pub greater_of : ℕ → FunctionValue → ℕ → ℕ
greater_of number v known = if v.function.predicate == number && nat_lt known v.value then v.value else known

-- the greatest of `known` and the values of this function
abbrev pub greatest_value : ℕ → List FunctionValue → ℕ → ℕ
greatest_value number [] known = known
greatest_value number (v ∷ vs) known = greatest_value number vs (greater_of number v known)

-- the recorded value of a function, or 0 if there is none
abbrev pub known_value : List (ℕ × ℕ) → ℕ → ℕ
known_value known number = unwrap_or (lookup (λ n. number == n) known) 0

-- the recorded value of each function is the greatest of its values
abbrev pub AreGreatest : List (ℕ × ℕ) → List FunctionValue → Type 0
AreGreatest known values = (number : ℕ) → known_value known number ≡ greatest_value number values 0

-- the greatest amount of an increase
abbrev pub most_of : List FunctionValue → Increase → ℕ
most_of values (Amount n) = n
most_of values (Value f) = greatest_value f.predicate values 0

-- the greatest amount of an increase, from the recorded values of the functions
abbrev pub most_known : List (ℕ × ℕ) → Increase → ℕ
most_known known (Amount n) = n
most_known known (Value f) = known_value known f.predicate

-- the faults of schemas whose actions may cost too much, at the byte offsets of their names, from the greatest amount
-- of each increase
abbrev pub sum_faults : (Increase → ℕ) → List Schema → List ℕ → List Fault
sum_faults most [] places = []
sum_faults most (s ∷ schemas) [] = []
sum_faults most (s ∷ schemas) (at ∷ places) =
    faults_if (nat_lt max_cost (sum_by most s.increases)) (fault CostRange at) (sum_faults most schemas places)

-- the faults of schemas whose actions may cost too much, from these initial values
unfoldable pub stated_sum_faults : List FunctionValue → List Schema → List ℕ → List Fault
stated_sum_faults values schemas places = sum_faults (most_of values) schemas places
