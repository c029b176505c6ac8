-- The texts of `examples/grip`, and their task: two rooms, two balls and a gripper for one of them.
use Rattle.std.specs.Prelude.{ℕ, false, List, [], ◌∷◌, ◌++◌, codes}
use Rattle.pddl_task.specs.declared.schema.Term.TheVariants.{Parameter}
use Rattle.pddl_task.specs.declared.schema.Condition.TheVariants.{Positive, Different}
use Rattle.pddl_task.specs.Planning.{PlanningTask, Schema}
use Rattle.pddl_task.specs.Examples.{atom, goal_atom, at_parameters, adding, deleting}

unfoldable pub grip_domain : List ℕ
grip_domain =
    codes "(define (domain grip)\n"
    ++ codes " (:predicates (room ?r) (ball ?b) (here ?r) (in ?b ?r) (free) (held ?b))\n"
    ++ codes " (:action move :parameters (?f ?t)\n"
    ++ codes "  :precondition (and (room ?f) (room ?t) (here ?f) (not (= ?f ?t)))\n"
    ++ codes "  :effect (and (here ?t) (not (here ?f))))\n"
    ++ codes " (:action pick :parameters (?b ?r)\n"
    ++ codes "  :precondition (and (ball ?b) (room ?r) (here ?r) (in ?b ?r) (free))\n"
    ++ codes "  :effect (and (held ?b) (not (in ?b ?r)) (not (free))))\n"
    ++ codes " (:action drop :parameters (?b ?r)\n"
    ++ codes "  :precondition (and (ball ?b) (room ?r) (here ?r) (held ?b))\n"
    ++ codes "  :effect (and (in ?b ?r) (free) (not (held ?b)))))\n"

unfoldable pub grip_problem : List ℕ
grip_problem =
    codes "(define (problem g1) (:domain grip) (:objects p q x y)\n"
    ++ codes " (:init (room p) (room q) (ball x) (ball y) (here p) (in x p) (in y p) (free))\n"
    ++ codes " (:goal (and (in x q) (in y q))))\n"

abbrev pub move_schema : Schema
move_schema = record {
  -- the types of ?f and ?t
  parameters = 0 ∷ 0 ∷ [];
  -- (room ?f) (room ?t) (here ?f) (not (= ?f ?t))
  precondition = Positive (at_parameters 0 (0 ∷ []))
      ∷ Positive (at_parameters 0 (1 ∷ []))
      ∷ Positive (at_parameters 2 (0 ∷ []))
      ∷ Different (Parameter 0) (Parameter 1)
      ∷ [];
  -- (here ?t) (not (here ?f))
  effect = adding (at_parameters 2 (1 ∷ [])) ∷ deleting (at_parameters 2 (0 ∷ [])) ∷ [];
  increases = [];
}

abbrev pub pick_schema : Schema
pick_schema = record {
  -- the types of ?b and ?r
  parameters = 0 ∷ 0 ∷ [];
  -- (ball ?b) (room ?r) (here ?r) (in ?b ?r) (free)
  precondition = Positive (at_parameters 1 (0 ∷ []))
      ∷ Positive (at_parameters 0 (1 ∷ []))
      ∷ Positive (at_parameters 2 (1 ∷ []))
      ∷ Positive (at_parameters 3 (0 ∷ 1 ∷ []))
      ∷ Positive (at_parameters 4 [])
      ∷ [];
  -- (held ?b) (not (in ?b ?r)) (not (free))
  effect = adding (at_parameters 5 (0 ∷ [])) ∷ deleting (at_parameters 3 (0 ∷ 1 ∷ [])) ∷ deleting (at_parameters 4 []) ∷ [];
  increases = [];
}

abbrev pub drop_schema : Schema
drop_schema = record {
  -- the types of ?b and ?r
  parameters = 0 ∷ 0 ∷ [];
  -- (ball ?b) (room ?r) (here ?r) (held ?b)
  precondition = Positive (at_parameters 1 (0 ∷ []))
      ∷ Positive (at_parameters 0 (1 ∷ []))
      ∷ Positive (at_parameters 2 (1 ∷ []))
      ∷ Positive (at_parameters 5 (0 ∷ []))
      ∷ [];
  -- (in ?b ?r) (free) (not (held ?b))
  effect = adding (at_parameters 3 (0 ∷ 1 ∷ [])) ∷ adding (at_parameters 4 []) ∷ deleting (at_parameters 5 (0 ∷ [])) ∷ [];
  increases = [];
}

unfoldable pub grip_task : PlanningTask
grip_task = record {
  -- the supertype of object: object
  supertypes = 0 ∷ [];
  -- the type of p, q, x and y: object
  object_types = 0 ∷ 0 ∷ 0 ∷ 0 ∷ [];
  -- the arities of room, ball, here, in, free and held
  arities = 1 ∷ 1 ∷ 1 ∷ 2 ∷ 0 ∷ 1 ∷ [];
  schemas = move_schema ∷ pick_schema ∷ drop_schema ∷ [];
  -- (room p) (room q) (ball x) (ball y) (here p) (in x p) (in y p) (free)
  initial = atom 0 (0 ∷ [])
      ∷ atom 0 (1 ∷ [])
      ∷ atom 1 (2 ∷ [])
      ∷ atom 1 (3 ∷ [])
      ∷ atom 2 (0 ∷ [])
      ∷ atom 3 (2 ∷ 0 ∷ [])
      ∷ atom 3 (3 ∷ 0 ∷ [])
      ∷ atom 4 []
      ∷ [];
  -- (in x q) (in y q)
  goal = goal_atom (atom 3 (2 ∷ 1 ∷ [])) ∷ goal_atom (atom 3 (3 ∷ 1 ∷ [])) ∷ [];
  values = [];
  metric = false;
  vocabulary = record {
    objects = codes "p" ∷ codes "q" ∷ codes "x" ∷ codes "y" ∷ [];
    predicates = codes "room" ∷ codes "ball" ∷ codes "here" ∷ codes "in" ∷ codes "free" ∷ codes "held" ∷ [];
    functions = [];
    schemas = codes "move" ∷ codes "pick" ∷ codes "drop" ∷ [];
  };
}
