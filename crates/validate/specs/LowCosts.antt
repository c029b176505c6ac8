-- Tasks whose actions are shown to have low costs by a simple test.
use Rattle.std.specs.Prelude.{nat_lt, ◌&&◌, Bool, true, false, List, [], ◌∷◌}
use Rattle.std.specs.List.{list_all}
use Rattle.pddl_task.specs.declared.schema.Increase.{Increase}
use Rattle.pddl_task.specs.declared.schema.Increase.TheVariants.{Amount, Value}
use Rattle.pddl_task.specs.Planning.{PlanningTask}

abbrev pub is_low_increase : Increase → Bool
is_low_increase (Amount n) = nat_lt n 1000
is_low_increase (Value atom) = true

-- at most two increases, each of them low
abbrev pub are_few_and_low : List Increase → Bool
are_few_and_low [] = true
are_few_and_low (i ∷ []) = is_low_increase i
are_few_and_low (i ∷ j ∷ []) = is_low_increase i && is_low_increase j
are_few_and_low (i ∷ j ∷ k ∷ is) = false

abbrev pub has_low_values : PlanningTask → Bool
has_low_values task = list_all (λ v. nat_lt v.value 1000) task.values

abbrev pub has_low_costs : PlanningTask → Bool
has_low_costs task = has_low_values task && list_all (λ s. are_few_and_low s.increases) task.schemas
