-- Variables that exceed a limit of finite-domain tasks.
use Rattle.std.specs.Prelude.{◌≡◌, ◌<◌, ◌≤◌, Bool, true, nat_lt, if◌then◌else◌, List, length}
use Rattle.std.specs.List.{list_any}
use Rattle.fdr.specs.declared.task.TaskLimit.{TaskLimit}
use Rattle.fdr.specs.declared.task.TaskLimit.TheVariants.{Variables, Values, Operators}
use Rattle.translate_theory.specs.Variables.{PlacedVariable}
use Rattle.fdr.specs.Limits.{max_variables, max_values}
use Rattle.std.specs.Prelude.{◌-◌}

-- whether the variable has too many values
abbrev pub is_long : PlacedVariable → Bool
is_long v = nat_lt (if v.has_none then max_values - 1 else max_values) (length v.places)

-- the limit that the variables exceed
abbrev pub IsPastLimitAt : List PlacedVariable → TaskLimit → Type 0
IsPastLimitAt variables Variables = max_variables < length variables
IsPastLimitAt variables Values = (length variables ≤ max_variables) × (list_any is_long variables ≡ true)
IsPastLimitAt variables Operators = ⊥
