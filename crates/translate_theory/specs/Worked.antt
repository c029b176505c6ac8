-- Examples of translations: a road and a gripper.
use Rattle.std.specs.Prelude.{ℕ, Bool, true, false, List, [], ◌∷◌, ◌++◌, codes}
use Rattle.std.specs.List.{filter_map}
use Rattle.pddl_task.specs.declared.schema.Term.TheVariants.{Parameter}
use Rattle.pddl_task.specs.declared.schema.Condition.TheVariants.{Positive, Different}
use Rattle.fdr.specs.declared.fact.Fact.{Fact}
use Rattle.fdr.specs.Tasks.{Operator}
use Rattle.pddl_task.specs.Atoms.{Atom}
use Rattle.pddl_task.specs.Planning.{PlanningTask, Action, action_of}
use Rattle.pddl_task.specs.Examples.{atom, goal_atom, at_parameters, adding, deleting, no_names, road_to_c}
use Rattle.translate_theory.specs.Translations.{Variable}

abbrev pub variable : List Atom → Bool → Variable
variable atoms has_none = record { atoms = atoms; has_none = has_none }

abbrev pub fact : ℕ → ℕ → Fact
fact v x = record { variable = v; value = x }

-- an operator of cost 1
abbrev pub operator : List ℕ → List Fact → List Fact → Operator
operator name precondition effect = record { name = name; precondition = precondition; effect = effect; cost = 1 }

-- the actions of a schema for these bindings of its parameters
abbrev pub actions_of : PlanningTask → ℕ → List (List ℕ) → List Action
actions_of task schema bindings = filter_map (action_of task schema) bindings

-- the road from a by b to c, with its names
abbrev pub named_road : PlanningTask
named_road = record road_to_c {
  vocabulary = record {
    objects = codes "a" ∷ codes "b" ∷ codes "c" ∷ [];
    predicates = codes "at" ∷ codes "road" ∷ [];
    functions = [];
    schemas = codes "go" ∷ [];
  };
}

abbrev pub at_a : Atom
at_a = atom 0 (0 ∷ [])

abbrev pub at_b : Atom
at_b = atom 0 (1 ∷ [])

abbrev pub at_c : Atom
at_c = atom 0 (2 ∷ [])

abbrev pub go_b_go_c : List Action
go_b_go_c = actions_of named_road 0 ((0 ∷ 1 ∷ []) ∷ (1 ∷ 2 ∷ []) ∷ [])

-- predicates: 0 room, 1 ball, 2 here, 3 in, 4 free, 5 held; objects: 0 p, 1 q, 2 x, 3 y
abbrev pub grip : PlanningTask
grip =
    record {
      supertypes = 0 ∷ [];
      object_types = 0 ∷ 0 ∷ 0 ∷ 0 ∷ [];
      arities = 1 ∷ 1 ∷ 1 ∷ 2 ∷ 0 ∷ 1 ∷ [];
      schemas = record {
        parameters = 0 ∷ 0 ∷ [];
        precondition = Positive (at_parameters 0 (0 ∷ [])) ∷ Positive (at_parameters 0 (1 ∷ [])) ∷ Positive (at_parameters 2 (0 ∷ []))
            ∷ Different (Parameter 0) (Parameter 1) ∷ [];
        effect = adding (at_parameters 2 (1 ∷ [])) ∷ deleting (at_parameters 2 (0 ∷ [])) ∷ [];
        increases = [];
      } ∷ record {
        parameters = 0 ∷ 0 ∷ [];
        precondition = Positive (at_parameters 1 (0 ∷ [])) ∷ Positive (at_parameters 0 (1 ∷ [])) ∷ Positive (at_parameters 2 (1 ∷ []))
            ∷ Positive (at_parameters 3 (0 ∷ 1 ∷ [])) ∷ Positive (at_parameters 4 []) ∷ [];
        effect = adding (at_parameters 5 (0 ∷ [])) ∷ deleting (at_parameters 3 (0 ∷ 1 ∷ [])) ∷ deleting (at_parameters 4 []) ∷ [];
        increases = [];
      } ∷ record {
        parameters = 0 ∷ 0 ∷ [];
        precondition = Positive (at_parameters 1 (0 ∷ [])) ∷ Positive (at_parameters 0 (1 ∷ [])) ∷ Positive (at_parameters 2 (1 ∷ []))
            ∷ Positive (at_parameters 5 (0 ∷ [])) ∷ [];
        effect = adding (at_parameters 3 (0 ∷ 1 ∷ [])) ∷ adding (at_parameters 4 []) ∷ deleting (at_parameters 5 (0 ∷ [])) ∷ [];
        increases = [];
      } ∷ [];
      initial = atom 0 (0 ∷ []) ∷ atom 0 (1 ∷ []) ∷ atom 1 (2 ∷ []) ∷ atom 1 (3 ∷ []) ∷ atom 2 (0 ∷ [])
          ∷ atom 3 (2 ∷ 0 ∷ []) ∷ atom 3 (3 ∷ 0 ∷ []) ∷ atom 4 [] ∷ [];
      goal = goal_atom (atom 3 (2 ∷ 1 ∷ [])) ∷ goal_atom (atom 3 (3 ∷ 1 ∷ [])) ∷ [];
      values = [];
      metric = false;
      vocabulary = no_names;
    }

abbrev pub grip_actions : List Action
grip_actions =
    actions_of grip 0 ((0 ∷ 0 ∷ []) ∷ (0 ∷ 1 ∷ []) ∷ (1 ∷ 0 ∷ []) ∷ (1 ∷ 1 ∷ []) ∷ [])
    ++ actions_of grip 1 ((2 ∷ 0 ∷ []) ∷ (2 ∷ 1 ∷ []) ∷ (3 ∷ 0 ∷ []) ∷ (3 ∷ 1 ∷ []) ∷ [])
    ++ actions_of grip 2 ((2 ∷ 0 ∷ []) ∷ (2 ∷ 1 ∷ []) ∷ (3 ∷ 0 ∷ []) ∷ (3 ∷ 1 ∷ []) ∷ [])

-- the location of the gripper, that of each ball, and whether the hand is free
abbrev pub here_atoms : List Atom
here_atoms = atom 2 (0 ∷ []) ∷ atom 2 (1 ∷ []) ∷ []

abbrev pub ball_atoms : ℕ → List Atom
ball_atoms b = atom 3 (b ∷ 0 ∷ []) ∷ atom 3 (b ∷ 1 ∷ []) ∷ atom 5 (b ∷ []) ∷ []

abbrev pub hand_atoms : List Atom
hand_atoms = atom 4 [] ∷ atom 5 (2 ∷ []) ∷ atom 5 (3 ∷ []) ∷ []

abbrev pub grip_variables : List Variable
grip_variables =
    variable here_atoms false ∷ variable (ball_atoms 2) false ∷ variable (ball_atoms 3) false ∷ variable (atom 4 [] ∷ []) true ∷ []
