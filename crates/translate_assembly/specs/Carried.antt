-- The indices of the actions that have an operator.
use Rattle.std.specs.Prelude.{◌≡◌, ℕ, ◌<◌, List, length, Some, slice_get, All}
use Rattle.std.specs.List.Sorted.{IsStrictlyIncreasing}
use Rattle.pddl_task.specs.Planning.{Action}
use Rattle.translate_theory.specs.Translations.{Variable, carried}

-- for each operator the index of its action in the list of actions: as many indices as operators, each below the number
-- of actions, and strictly increasing
pub record AreCarriedAt (variables : List Variable) (actions : List Action) (places : List ℕ) : Type 0 where
  pub count : length places ≡ length (carried variables actions)
  pub rising : IsStrictlyIncreasing places
  pub within : All (λ p. p < length actions) places
  pub same : (o p : ℕ) → slice_get places o ≡ Some p → slice_get actions p ≡ slice_get (carried variables actions) o
