-- Worked tasks: roads between towns, with and without lengths, and a door that may be locked.
use Rattle.std.specs.Prelude.{ℕ, true, false, List, [], ◌∷◌, map}
use Rattle.std.specs.List.{filter_map}
use Rattle.pddl_task.specs.declared.schema.Term.TheVariants.{Parameter}
use Rattle.pddl_task.specs.declared.schema.Condition.TheVariants.{Positive, Negative}
use Rattle.pddl_task.specs.declared.schema.Increase.{Increase}
use Rattle.pddl_task.specs.declared.schema.Increase.TheVariants.{Value}
use Rattle.pddl_task.specs.Lifted.{Lifted}
use Rattle.pddl_task.specs.Atoms.{Atom, Literal}
use Rattle.pddl_task.specs.Planning.{PlanningTask, Effect, FunctionValue, Vocabulary, Action, action_of}

abbrev pub atom : ℕ → List ℕ → Atom
atom predicate objects = record { predicate = predicate; objects = objects }

abbrev pub goal_atom : Atom → Literal
goal_atom p = record { atom = p; positive = true }

-- a predicate or a function, with parameters of the schema as its terms
abbrev pub at_parameters : ℕ → List ℕ → Lifted
at_parameters predicate parameters = record { predicate = predicate; terms = map Parameter parameters }

abbrev pub adding : Lifted → Effect
adding p = record { atom = p; positive = true }

abbrev pub deleting : Lifted → Effect
deleting p = record { atom = p; positive = false }

abbrev pub no_names : Vocabulary
no_names = record { objects = []; predicates = []; functions = []; schemas = [] }

-- the existing actions of schema 0 for these lists of objects
abbrev pub actions_for : PlanningTask → List (List ℕ) → List Action
actions_for task bindings = filter_map (action_of task 0) bindings

-- Predicates: 0 at, 1 road. Type 1 is town, and the towns a, b, c are 0, 1, 2. Schema 0 travels from town to town by a
-- road.
abbrev pub road : List Increase → List FunctionValue → List Atom → Atom → PlanningTask
road increases values initial goal =
    record {
      supertypes = 0 ∷ 0 ∷ [];
      object_types = 1 ∷ 1 ∷ 1 ∷ [];
      arities = 1 ∷ 2 ∷ [];
      schemas = record {
        parameters = 1 ∷ 1 ∷ [];
        precondition = Positive (at_parameters 0 (0 ∷ [])) ∷ Positive (at_parameters 1 (0 ∷ 1 ∷ [])) ∷ [];
        effect = deleting (at_parameters 0 (0 ∷ [])) ∷ adding (at_parameters 0 (1 ∷ [])) ∷ [];
        increases = increases;
      } ∷ [];
      initial = initial;
      goal = goal_atom goal ∷ [];
      values = values;
      metric = true;
      vocabulary = no_names;
    }

-- initially at a, with roads from a to b and from b to c
abbrev pub roads_to_c : List Atom
roads_to_c = atom 0 (0 ∷ []) ∷ atom 1 (0 ∷ 1 ∷ []) ∷ atom 1 (1 ∷ 2 ∷ []) ∷ []

-- the goal is c, by way of b, and each action costs 1
abbrev pub road_to_c : PlanningTask
road_to_c = record (road [] [] roads_to_c (atom 0 (2 ∷ []))) { metric = false }

-- the goal is a, and a road goes from a back to a
abbrev pub road_to_a : PlanningTask
road_to_a = record (road [] [] (atom 0 (0 ∷ []) ∷ atom 1 (0 ∷ 0 ∷ []) ∷ []) (atom 0 (0 ∷ []))) { metric = false }

-- the value of function 0, the length of a road
abbrev pub length_of : ℕ → ℕ → ℕ → FunctionValue
length_of from to n = record { function = atom 0 (from ∷ to ∷ []); value = n }

-- the goal is c, by way of b, and an action costs the length of its road
abbrev pub long_road : List FunctionValue → PlanningTask
long_road lengths = road (Value (at_parameters 0 (0 ∷ 1 ∷ [])) ∷ []) lengths roads_to_c (atom 0 (2 ∷ []))

-- Predicates: 0 in, 1 locked. Object 0 is a door. Schema 0 enters by a door that is not locked.
abbrev pub door : List Atom → PlanningTask
door initial =
    record {
      supertypes = 0 ∷ [];
      object_types = 0 ∷ [];
      arities = 0 ∷ 1 ∷ [];
      schemas = record {
        parameters = 0 ∷ [];
        precondition = Negative (at_parameters 1 (0 ∷ [])) ∷ [];
        effect = adding (at_parameters 0 []) ∷ [];
        increases = [];
      } ∷ [];
      initial = initial;
      goal = goal_atom (atom 0 []) ∷ [];
      values = [];
      metric = false;
      vocabulary = no_names;
    }
