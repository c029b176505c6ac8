-- The texts of `examples/drive`, and their task: roads from a to b, from b to c and from a to c, and an action that
-- travels by a road, at the cost of its length.
use Rattle.std.specs.Prelude.{ℕ, true, List, [], ◌∷◌, ◌++◌, codes}
use Rattle.pddl_task.specs.declared.schema.Condition.TheVariants.{Positive}
use Rattle.pddl_task.specs.declared.schema.Increase.TheVariants.{Value}
use Rattle.pddl_task.specs.Planning.{PlanningTask, Schema}
use Rattle.pddl_task.specs.Examples.{atom, goal_atom, at_parameters, adding, deleting}

unfoldable pub drive_domain : List ℕ
drive_domain =
    codes "(define (domain drive)\n"
    ++ codes " (:requirements :typing)\n"
    ++ codes " (:types loc)\n"
    ++ codes " (:predicates (at ?x - loc) (road ?x ?y - loc))\n"
    ++ codes " (:functions (total-cost) - number (len ?x ?y - loc) - number)\n"
    ++ codes " (:action go :parameters (?x ?y - loc)\n"
    ++ codes "  :precondition (and (at ?x) (road ?x ?y))\n"
    ++ codes "  :effect (and (not (at ?x)) (at ?y) (increase (total-cost) (len ?x ?y)))))\n"

-- the problem, with this text for the length of the road from a to c
unfoldable pub problem_with_length : List ℕ → List ℕ
problem_with_length number =
    codes "(define (problem d1) (:domain drive)\n"
    ++ codes " (:objects a b c - loc)\n"
    ++ codes " (:init (at a) (road a b) (road b c) (road a c)\n"
    ++ codes "  (= (len a b) 3) (= (len b c) 4) (= (len a c) " ++ number ++ codes "))\n"
    ++ codes " (:goal (at c)) (:metric minimize (total-cost)))\n"

unfoldable pub drive_problem : List ℕ
drive_problem = problem_with_length (codes "8")

unfoldable pub drive_problem_with_fraction : List ℕ
drive_problem_with_fraction = problem_with_length (codes "5.5")

abbrev pub drive_schema : Schema
drive_schema = record {
  -- the types of ?x and ?y
  parameters = 1 ∷ 1 ∷ [];
  -- (at ?x) (road ?x ?y)
  precondition = Positive (at_parameters 0 (0 ∷ [])) ∷ Positive (at_parameters 1 (0 ∷ 1 ∷ [])) ∷ [];
  -- (not (at ?x)) (at ?y)
  effect = deleting (at_parameters 0 (0 ∷ [])) ∷ adding (at_parameters 0 (1 ∷ [])) ∷ [];
  -- (len ?x ?y)
  increases = Value (at_parameters 1 (0 ∷ 1 ∷ [])) ∷ [];
}

unfoldable pub drive_task : PlanningTask
drive_task = record {
  -- the supertype of object and of loc: object
  supertypes = 0 ∷ 0 ∷ [];
  -- the type of a, b and c: loc
  object_types = 1 ∷ 1 ∷ 1 ∷ [];
  -- the arities of at and road
  arities = 1 ∷ 2 ∷ [];
  schemas = drive_schema ∷ [];
  -- (at a) (road a b) (road b c) (road a c)
  initial = atom 0 (0 ∷ []) ∷ atom 1 (0 ∷ 1 ∷ []) ∷ atom 1 (1 ∷ 2 ∷ []) ∷ atom 1 (0 ∷ 2 ∷ []) ∷ [];
  -- (at c)
  goal = goal_atom (atom 0 (2 ∷ [])) ∷ [];
  -- the values of (len a b), (len b c) and (len a c)
  values = record { function = atom 1 (0 ∷ 1 ∷ []); value = 3 }
      ∷ record { function = atom 1 (1 ∷ 2 ∷ []); value = 4 }
      ∷ record { function = atom 1 (0 ∷ 2 ∷ []); value = 8 }
      ∷ [];
  metric = true;
  -- function 0 is total-cost, and function 1 is len
  vocabulary = record {
    objects = codes "a" ∷ codes "b" ∷ codes "c" ∷ [];
    predicates = codes "at" ∷ codes "road" ∷ [];
    functions = codes "total-cost" ∷ codes "len" ∷ [];
    schemas = codes "go" ∷ [];
  };
}
