-- The texts of `examples/road`, and their task: roads from a to b and from b to c, and an action that travels by a
-- road.
use Rattle.std.specs.Prelude.{ℕ, false, List, [], ◌∷◌, ◌++◌, codes}
use Rattle.pddl_task.specs.declared.schema.Condition.TheVariants.{Positive}
use Rattle.pddl_task.specs.Planning.{PlanningTask, Schema}
use Rattle.pddl_task.specs.Examples.{atom, goal_atom, at_parameters, adding, deleting}

unfoldable pub road_domain : List ℕ
road_domain =
    codes "(define (domain road)\n"
    ++ codes " (:requirements :typing)\n"
    ++ codes " (:types loc)\n"
    ++ codes " (:predicates (at ?x - loc) (road ?x ?y - loc))\n"
    ++ codes " (:action go :parameters (?x ?y - loc)\n"
    ++ codes "  :precondition (and (at ?x) (road ?x ?y))\n"
    ++ codes "  :effect (and (not (at ?x)) (at ?y))))\n"

unfoldable pub road_problem : List ℕ
road_problem =
    codes "(define (problem r1) (:domain road)\n"
    ++ codes " (:objects a b c - loc)\n"
    ++ codes " (:init (at a) (road a b) (road b c))\n"
    ++ codes " (:goal (at c)))\n"

abbrev pub road_schema : Schema
road_schema = record {
  -- the types of ?x and ?y
  parameters = 1 ∷ 1 ∷ [];
  -- (at ?x) (road ?x ?y)
  precondition = Positive (at_parameters 0 (0 ∷ [])) ∷ Positive (at_parameters 1 (0 ∷ 1 ∷ [])) ∷ [];
  -- (not (at ?x)) (at ?y)
  effect = deleting (at_parameters 0 (0 ∷ [])) ∷ adding (at_parameters 0 (1 ∷ [])) ∷ [];
  increases = [];
}

unfoldable pub road_task : PlanningTask
road_task = record {
  -- the supertype of object and of loc: object
  supertypes = 0 ∷ 0 ∷ [];
  -- the type of a, b and c: loc
  object_types = 1 ∷ 1 ∷ 1 ∷ [];
  -- the arities of at and road
  arities = 1 ∷ 2 ∷ [];
  schemas = road_schema ∷ [];
  -- (at a) (road a b) (road b c)
  initial = atom 0 (0 ∷ []) ∷ atom 1 (0 ∷ 1 ∷ []) ∷ atom 1 (1 ∷ 2 ∷ []) ∷ [];
  -- (at c)
  goal = goal_atom (atom 0 (2 ∷ [])) ∷ [];
  values = [];
  metric = false;
  vocabulary = record {
    objects = codes "a" ∷ codes "b" ∷ codes "c" ∷ [];
    predicates = codes "at" ∷ codes "road" ∷ [];
    functions = [];
    schemas = codes "go" ∷ [];
  };
}
