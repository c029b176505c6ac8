-- A task worked out by hand: a gripper holds one ball at a time.
use Rattle.std.specs.Prelude.{ℕ, false, List, [], ◌∷◌, ◌++◌}
use Rattle.std.specs.List.{filter_map}
use Rattle.pddl_task.specs.declared.schema.Condition.TheVariants.{Positive}
use Rattle.pddl_task.specs.Atoms.{Atom}
use Rattle.pddl_task.specs.Examples.{atom, goal_atom, at_parameters, adding, deleting, no_names}
use Rattle.pddl_task.specs.Planning.{PlanningTask, action_of}
use Rattle.mutex_index.specs.Places.{Indexed}

-- Predicates: 0 in, 1 held, 2 free. Type 1 is ball, and the balls x, y are 0, 1; type 2 is room, and the rooms p, q are
-- 2, 3. Schema 0 picks up a ball in a room, and schema 1 puts it down.
abbrev pub two_balls : PlanningTask
two_balls =
    record {
      supertypes = 0 ∷ 0 ∷ 0 ∷ [];
      object_types = 1 ∷ 1 ∷ 2 ∷ 2 ∷ [];
      arities = 2 ∷ 1 ∷ 0 ∷ [];
      schemas = record {
        parameters = 1 ∷ 2 ∷ [];
        precondition = Positive (at_parameters 0 (0 ∷ 1 ∷ [])) ∷ Positive (at_parameters 2 []) ∷ [];
        effect = adding (at_parameters 1 (0 ∷ [])) ∷ deleting (at_parameters 0 (0 ∷ 1 ∷ [])) ∷ deleting (at_parameters 2 []) ∷ [];
        increases = [];
      } ∷ record {
        parameters = 1 ∷ 2 ∷ [];
        precondition = Positive (at_parameters 1 (0 ∷ [])) ∷ [];
        effect = adding (at_parameters 0 (0 ∷ 1 ∷ [])) ∷ adding (at_parameters 2 []) ∷ deleting (at_parameters 1 (0 ∷ [])) ∷ [];
        increases = [];
      } ∷ [];
      initial = atom 0 (0 ∷ 2 ∷ []) ∷ atom 0 (1 ∷ 2 ∷ []) ∷ atom 2 [] ∷ [];
      goal = goal_atom (atom 0 (0 ∷ 3 ∷ [])) ∷ [];
      values = [];
      metric = false;
      vocabulary = no_names;
    }

abbrev pub balls_in_rooms : List (List ℕ)
balls_in_rooms = (0 ∷ 2 ∷ []) ∷ (0 ∷ 3 ∷ []) ∷ (1 ∷ 2 ∷ []) ∷ (1 ∷ 3 ∷ []) ∷ []

-- x in p, x in q, y in p, y in q, held x, held y, free
abbrev pub ball_atoms : List Atom
ball_atoms =
    atom 0 (0 ∷ 2 ∷ []) ∷ atom 0 (0 ∷ 3 ∷ []) ∷ atom 0 (1 ∷ 2 ∷ []) ∷ atom 0 (1 ∷ 3 ∷ []) ∷ atom 1 (0 ∷ []) ∷ atom 1 (1 ∷ []) ∷ atom 2 []
    ∷ []

abbrev pub with_two_balls : Indexed
with_two_balls =
    record {
      task = two_balls;
      atoms = ball_atoms;
      actions = filter_map (action_of two_balls 0) balls_in_rooms ++ filter_map (action_of two_balls 1) balls_in_rooms;
    }
