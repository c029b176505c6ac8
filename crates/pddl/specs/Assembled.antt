-- The task assembled from a domain and a problem.
use Rattle.pddl_task.specs.Planning.{PlanningTask}
use Rattle.pddl_problem.specs.Initial.{values_of}
use Rattle.pddl.specs.declared.domain.Domain.{Domain}
use Rattle.pddl.specs.declared.problem.Problem.{Problem}

abbrev pub task_in : Domain → Problem → PlanningTask
task_in d p = record {
  supertypes = d.declarations.supertypes;
  object_types = d.objects.types;
  arities = d.declarations.predicates.arities;
  schemas = d.actions.schemas.items;
  initial = p.initial.items;
  goal = p.goal.items;
  values = values_of p.values.entries;
  metric = p.metric;
  vocabulary = record { objects = d.objects.names; predicates = d.declarations.predicates.names; functions = d.declarations.functions.names; schemas = d.actions.names };
}
