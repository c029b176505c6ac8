-- Forms of states.
use Rattle.std.specs.Prelude.{ℕ, List, All}

-- states with these ranges have the form, and all keys are forms of such states
pub record AreForms {F : Type 0} (Fits : List ℕ → Type 0) (IsForm : List ℕ → F → Type 0) (ranges : List ℕ) (keys : List F) : Type 0 where
  pub fits : Fits ranges
  pub keys_are : All (IsForm ranges) keys
