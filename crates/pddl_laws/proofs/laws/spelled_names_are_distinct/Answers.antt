use Rattle.pddl_laws.proofs.DistinctNames.{distinct_objects, distinct_predicates, distinct_schemas}
use Rattle.pddl_laws.proofs.laws.spelled_names_are_distinct.Goals as goal

pub returns-clause-objects : goal.returns-clause-objects
returns-clause-objects c = distinct_objects

pub returns-clause-predicates : goal.returns-clause-predicates
returns-clause-predicates c = distinct_predicates

pub returns-clause-schemas : goal.returns-clause-schemas
returns-clause-schemas c = distinct_schemas
