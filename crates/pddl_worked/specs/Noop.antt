-- The texts of `examples/noop`, and their task: one action, of cost 5. The domain is in capital letters, and a comment
-- ends the problem.
use Rattle.std.specs.Prelude.{ℕ, true, List, [], ◌∷◌, codes}
use Rattle.pddl_task.specs.declared.schema.Increase.TheVariants.{Amount}
use Rattle.pddl_task.specs.Planning.{PlanningTask, Schema}
use Rattle.pddl_task.specs.Examples.{atom, goal_atom, at_parameters, adding}

unfoldable pub noop_domain : List ℕ
noop_domain = codes "(DEFINE (DOMAIN N) (:PREDICATES (P)) (:FUNCTIONS (TOTAL-COST)) (:ACTION NOOP :PARAMETERS () :EFFECT (AND (P) (INCREASE (TOTAL-COST) 5.0))))\n"

unfoldable pub noop_problem : List ℕ
noop_problem = codes "(define (problem n1) (:domain other) (:init) (:goal (P)) (:metric minimize (total-cost))) ; end"

abbrev pub noop_schema : Schema
noop_schema = record {
  parameters = [];
  precondition = [];
  -- (p)
  effect = adding (at_parameters 0 []) ∷ [];
  -- 5.0
  increases = Amount 5 ∷ [];
}

unfoldable pub noop_task : PlanningTask
noop_task = record {
  -- the supertype of object: object
  supertypes = 0 ∷ [];
  object_types = [];
  -- the arity of p
  arities = 0 ∷ [];
  schemas = noop_schema ∷ [];
  initial = [];
  -- (p)
  goal = goal_atom (atom 0 []) ∷ [];
  values = [];
  metric = true;
  -- the names in lower case
  vocabulary = record {
    objects = [];
    predicates = codes "p" ∷ [];
    functions = codes "total-cost" ∷ [];
    schemas = codes "noop" ∷ [];
  };
}
