-- The finite-domain task over listed atoms and chosen variables (Helmert 2009, finite-domain representations).
use Rattle.std.specs.Prelude.{◌≡◌, ◌≢◌, ℕ, ◌+◌, Bool, true, false, ◌&&◌, ◌||◌, ◌==◌, not, if◌then◌else◌, List, [], ◌∷◌, ◌++◌, length, map, Option, Some, None, slice_get, filter, count_by, All, AllPairs}
use Rattle.std.specs.List.{list_all, list_any, filter_map, enumerate_from, position_or_len, AllZip}
use Rattle.std.specs.Option.{option_map}
use Rattle.fdr.specs.declared.fact.Fact.{Fact}
use Rattle.fdr.specs.Tasks.{FiniteDomainTask, Operator}
use Rattle.pddl_task.specs.Atoms.{Atom, State, Literal, contains, at_most_one, wants, excludes, is_contradictory}
use Rattle.pddl_task.specs.Planning.{PlanningTask, Vocabulary, Action}
use Rattle.mutex_index.specs.Groups.{removes, is_excluded, is_constant, is_usable, is_full}
use Rattle.translate_theory.specs.Names.{atom_names, none_name, action_name}

-- the values are the atoms, followed by the none value if `has_none` is set
pub record Variable : Type 0 where
  pub atoms : List Atom
  pub has_none : Bool

-- a usable mutex group, with the none value unless it is a full group, without an excluded atom and with at most one
-- goal
pub record IsGroupVariable (task : PlanningTask) (actions : List Action) (v : Variable) : Type 0 where
  pub usable : is_usable task actions v.atoms ≡ true
  pub kind : (v.has_none || is_full task actions v.atoms) ≡ true
  pub positive : list_any (is_excluded task actions) v.atoms ≡ false
  pub one_goal : at_most_one (wants task.goal) v.atoms ≡ true

-- a variable of one atom has the none value, and one of several atoms is a mutex group
abbrev pub IsVariableOver : PlanningTask → List Action → Variable → List Atom → Type 0
IsVariableOver task actions v [] = ⊥
IsVariableOver task actions v (p ∷ []) = v.has_none ≡ true
IsVariableOver task actions v (p ∷ q ∷ rest) = IsGroupVariable task actions v

abbrev pub IsVariableOf : PlanningTask → List Action → Variable → Type 0
IsVariableOf task actions v = IsVariableOver task actions v v.atoms

-- each listed atom that is not constant is in exactly one variable, and constant atoms are in none
pub record AreVariables (task : PlanningTask) (atoms : List Atom) (actions : List Action) (variables : List Variable) : Type 0 where
  pub each : All (IsVariableOf task actions) variables
  pub listed : All (λ v. list_all (contains atoms) v.atoms ≡ true) variables
  pub distinct : All (λ v. AllPairs (λ p q. p ≢ q) v.atoms) variables
  pub covered : list_all
      (λ p. count_by (λ v. contains v.atoms p) variables == (if is_constant task actions p then 0 else 1)) atoms ≡ true

abbrev pub range_of : Variable → ℕ
range_of v = if v.has_none then length v.atoms + 1 else length v.atoms

-- the index of the first true atom, or the none value if none is true
abbrev pub value_in : State → Variable → ℕ
value_in state v = position_or_len state v.atoms

-- the value that the literals require: that of the wanted atom, or the none value for an excluded atom
abbrev pub condition_on : List Literal → Variable → Option ℕ
condition_on literals v =
    if list_any (wants literals) v.atoms then Some (position_or_len (wants literals) v.atoms)
    else if list_any (excludes literals) v.atoms then Some (length v.atoms) else None

abbrev pub is_single : List Atom → Bool
is_single [] = false
is_single (p ∷ []) = true
is_single (p ∷ q ∷ rest) = false

-- the value that the action assigns to the variable: that of the added atom, or the none value if the action only
-- removes atoms, and a removed atom is in the precondition or is the only atom of the variable
abbrev pub target_on : Action → Variable → Option ℕ
target_on a v =
    if list_any (contains a.adds) v.atoms then Some (position_or_len (contains a.adds) v.atoms)
    else if list_any (λ p. removes a p && (wants a.precondition p || is_single v.atoms)) v.atoms then Some (length v.atoms)
    else None

-- an effect that is equal to the precondition is dropped
abbrev pub unless_equal : Option ℕ → Option ℕ → Option ℕ
unless_equal None other = None
unless_equal (Some x) None = Some x
unless_equal (Some x) (Some y) = if x == y then None else Some x

abbrev pub effect_on : Action → Variable → Option ℕ
effect_on a v = unless_equal (target_on a v) (condition_on a.precondition v)

-- a fact for each variable for which `given` has a value, in the order of the variables
abbrev pub facts : (Variable → Option ℕ) → List Variable → List Fact
facts given variables =
    filter_map (λ e. option_map (λ x. record { variable = e.0; value = x }) (given e.1)) (enumerate_from 0 variables)

-- the precondition is not contradictory, and requires at most one atom of each variable to be true
abbrev pub has_operator : List Variable → Action → Bool
has_operator variables a =
    not (is_contradictory a.precondition) && list_all (λ v. at_most_one (wants a.precondition) v.atoms) variables

abbrev pub operator_of : Vocabulary → List Variable → Action → Operator
operator_of names variables a =
    record {
      name = action_name names a;
      precondition = facts (condition_on a.precondition) variables;
      effect = facts (effect_on a) variables;
      cost = a.cost;
    }

-- the actions that have an operator, in order: the action of operator o is at index o
abbrev pub carried : List Variable → List Action → List Action
carried variables actions = filter (has_operator variables) actions

-- the names of the atoms, followed by that of the none value if there is one
abbrev pub value_names_of : Vocabulary → Variable → List (List ℕ)
value_names_of names v = atom_names names v.atoms ++ (if v.has_none then none_name names v.atoms ∷ [] else [])

abbrev pub translation : PlanningTask → List Variable → List Action → FiniteDomainTask
translation task variables actions =
    record {
      metric = task.metric;
      value_names = map (value_names_of task.vocabulary) variables;
      initial = map (value_in (contains task.initial)) variables;
      goal = facts (condition_on task.goal) variables;
      operators = map (operator_of task.vocabulary variables) (carried variables actions);
    }

-- the numbers of the operators of the actions of the plan, in order
abbrev pub AreOperatorsOf : List Variable → List Action → List Action → List ℕ → Type 0
AreOperatorsOf variables actions plan os =
    AllZip (λ a o. slice_get (carried variables actions) o ≡ Some a) plan os
