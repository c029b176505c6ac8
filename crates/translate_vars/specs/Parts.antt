-- Listed atoms and variables that are fit for a translation (the conditions of Helmert 2009, tested over all actions).
use Rattle.std.specs.Prelude.{ℕ, ◌≤◌, ◌+◌, ◌≡◌, Bool, false, nat_lt, if◌then◌else◌, List, length}
use Rattle.std.specs.List.{list_any}
use Rattle.pddl_task.specs.Atoms.{Atom, contains}
use Rattle.pddl_task.specs.Planning.{PlanningTask}
use Rattle.ground_theory.specs.Grounding.{AreListedAtoms, actions_over}
use Rattle.ground.specs.Search.{max_actions}
use Rattle.ground.specs.Rounds.{max_atoms}
use Rattle.translate_theory.specs.Translations.{AreVariables}
use Rattle.translate_theory.specs.Variables.{PlacedVariable, variables_at}
use Rattle.fdr.specs.Limits.{max_variables, max_values}

-- the number of values: the atoms, and the none value if there is one
abbrev pub value_count : PlacedVariable → ℕ
value_count v = if v.has_none then length v.places + 1 else length v.places

-- whether a variable has too many values
abbrev pub has_long_range : List PlacedVariable → Bool
has_long_range variables = list_any (λ v. nat_lt max_values (value_count v)) variables

-- the limits on atoms, on variables and on the values of a variable hold
pub record AreWithinLimits (atoms : List Atom) (variables : List PlacedVariable) : Type 0 where
  pub few_atoms : length atoms ≤ max_atoms
  pub few_variables : length variables ≤ max_variables
  pub few_values : has_long_range variables ≡ false

-- the atoms are a closed set of the task with the initial atoms and the goal, and each atom that is not constant is in
-- one variable
pub record AreFit (task : PlanningTask) (atoms : List Atom) (variables : List PlacedVariable) : Type 0 where
  pub within : AreWithinLimits atoms variables
  pub listed : AreListedAtoms task atoms
  pub few_actions : length (actions_over task (contains atoms)) ≤ max_actions
  pub chosen : AreVariables task atoms (actions_over task (contains atoms)) (variables_at atoms variables)
