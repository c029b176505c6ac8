-- Abstractions of a finite-domain task (Helmert, Haslum and Hoffmann 2007), and their tables of lower bounds.
use Rattle.std.specs.Prelude.{◌≡◌, ℕ, ◌<◌, ◌≤◌, Bool, true, false, List, length, Option, Some, None, IfSome}
use Rattle.cost.specs.Distances.{Distance, Finite, ◌≤ᵈ◌, ◌+ᵈ◌}
use Rattle.fdr.specs.Tasks.{FiniteDomainTask, ranges, IsState, step, is_goal_state}

-- the abstract states are the numbers below the size; `transition i o` is the abstract state that operator o reaches
-- from i, if it has a transition there; an operator that does not affect the abstraction reaches no other abstract
-- state
pub record Abstraction : Type 0 where
  pub size : ℕ
  pub index : List ℕ → ℕ
  pub transition : ℕ → ℕ → Option ℕ
  pub touches : ℕ → Bool
  pub is_goal : ℕ → Bool

-- each step of the task is a transition, goal states are abstract goals, and only operators of the task have
-- transitions
pub record IsAbstractionOf (task : FiniteDomainTask) (a : Abstraction) : Type 0 where
  pub indices : (s : List ℕ) → IsState (ranges task) s → a.index s < a.size
  pub transitions : (i o : ℕ) → i < a.size → IfSome (a.transition i o) (λ j. j < a.size)
  pub steps : (s : List ℕ) (o : ℕ) → IsState (ranges task) s
      → IfSome (step task s o) (λ t. a.transition (a.index s) o ≡ Some (a.index t))
  pub goals : (s : List ℕ) → IsState (ranges task) s → is_goal_state task s ≡ true → a.is_goal (a.index s) ≡ true
  pub operators : (i o : ℕ) → length task.operators ≤ o → a.transition i o ≡ None
  pub untouched : (i o : ℕ) → i < a.size → a.touches o ≡ false → IfSome (a.transition i o) (λ j. j ≡ i)

-- a table of an abstraction: for each operator a share of its cost, and for each abstract state a distance
pub record Table : Type 0 where
  pub abstraction : Abstraction
  pub share : ℕ → ℕ
  pub value : ℕ → Distance

-- consistency: abstract goals have the value 0, and a transition lowers the value by at most the operator's share
pub record IsConsistent (t : Table) : Type 0 where
  pub goals : (i : ℕ) → i < t.abstraction.size → t.abstraction.is_goal i ≡ true → t.value i ≡ Finite 0
  pub steps : (i o : ℕ) → i < t.abstraction.size
      → IfSome (t.abstraction.transition i o) (λ j. t.value i ≤ᵈ Finite (t.share o) +ᵈ t.value j)

-- the value of the table at a state
abbrev pub value_at : List ℕ → Table → Distance
value_at state t = t.value (t.abstraction.index state)
