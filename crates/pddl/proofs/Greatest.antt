-- What is known of each function is its greatest value: then the sums are the same.
use Rattle.std.proofs.Common.{◌≡◌, ℕ, List, [], ◌∷◌, refl, sym, ap, ◌∙◌, ◌+◌}
use Rattle.std.specs.Prelude.{nat_lt, sum_by}
use Rattle.std.proofs.lemmas.List.Sums.{sum_by-cons}
use Rattle.pddl_task.specs.declared.schema.Increase.{Increase}
use Rattle.pddl_task.specs.declared.schema.Increase.TheVariants.{Amount, Value}
use Rattle.pddl_task.specs.Planning.{Schema, FunctionValue}
use Rattle.pddl_syntax.specs.declared.fault.FaultKind.TheVariants.{CostRange}
use Rattle.pddl_syntax.specs.Faults.{fault, faults_if}
use Rattle.pddl.specs.Sums.{AreGreatest, most_of, most_known, sum_faults, stated_sum_faults}

most_same : (known : List (ℕ × ℕ)) (values : List FunctionValue) → AreGreatest known values → (i : Increase) → most_known known i ≡ most_of values i
most_same known values h (Amount n) = refl
most_same known values h (Value f) = h f.predicate

sum_same : (known : List (ℕ × ℕ)) (values : List FunctionValue) → AreGreatest known values → (is : List Increase) → sum_by (most_known known) is ≡ sum_by (most_of values) is
sum_same known values h [] = refl
sum_same known values h (i ∷ is) =
    sum_by-cons (most_known known) i is ∙ ap (λ (n : ℕ). n + sum_by (most_known known) is) (most_same known values h i)
    ∙ ap (λ (n : ℕ). most_of values i + n) (sum_same known values h is) ∙ sym (sum_by-cons (most_of values) i is)

known_sums : (known : List (ℕ × ℕ)) (values : List FunctionValue) → AreGreatest known values → (schemas : List Schema) (places : List ℕ)
    → sum_faults (most_known known) schemas places ≡ sum_faults (most_of values) schemas places
known_sums known values h [] places = refl
known_sums known values h (s ∷ schemas) [] = refl
known_sums known values h (s ∷ schemas) (at ∷ places) =
    ap (λ (n : ℕ). faults_if (nat_lt 2147483647 n) (fault CostRange at) (sum_faults (most_known known) schemas places)) (sum_same known values h s.increases)
    ∙ ap (faults_if (nat_lt 2147483647 (sum_by (most_of values) s.increases)) (fault CostRange at)) (known_sums known values h schemas places)

pub known_faults : (known : List (ℕ × ℕ)) (values : List FunctionValue) → AreGreatest known values → (schemas : List Schema) (places : List ℕ)
    → sum_faults (most_known known) schemas places ≡ stated_sum_faults values schemas places
unfolding stated_sum_faults
known_faults = known_sums
