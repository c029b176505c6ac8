-- The transitions into an abstract state, class by class of operators.
use Rattle.std.specs.Prelude.{◌≡◌, ℕ, ◌<◌, ◌↔◌, List, Option, Some, None, Contains}
use Rattle.abstraction.specs.Abstractions.{Abstraction}
use Rattle.abstraction_groups.specs.declared.backward.Transition.{Transition}

-- the operator has a transition from the first abstract state to the second
abbrev pub LeadsTo : Abstraction → ℕ → ℕ → ℕ → Type 0
LeadsTo a o i j = (i < a.size) × (a.transition i o ≡ Some j)

-- the number of classes, and the class of each operator, if it has one
pub record Classes : Type 0 where
  pub count : ℕ
  pub class : ℕ → Option ℕ

-- operators of one class have the same transitions, and those without a class have transitions only from an abstract
-- state to itself
pub record AreClasses (a : Abstraction) (classes : Classes) : Type 0 where
  pub below : (o c : ℕ) → classes.class o ≡ Some c → c < classes.count
  pub alike : (o p c i j : ℕ) → classes.class o ≡ Some c → classes.class p ≡ Some c → j < a.size → LeadsTo a o i j → LeadsTo a p i j
  pub others : (o i j : ℕ) → classes.class o ≡ None → j < a.size → LeadsTo a o i j → i ≡ j

-- some operator of the class has a transition from the source to the abstract state
abbrev pub IsEntering : Abstraction → Classes → ℕ → Transition → Type 0
IsEntering a classes j t = (o : ℕ) × (classes.class o ≡ Some t.class) × LeadsTo a o t.source j

-- exactly the transitions by classes into this abstract state
abbrev pub AreEntering : Abstraction → Classes → ℕ → List Transition → Type 0
AreEntering a classes j transitions = (t : Transition) → Contains transitions t ↔ IsEntering a classes j t
