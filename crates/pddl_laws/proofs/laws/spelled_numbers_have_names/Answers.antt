use Rattle.pddl_laws.proofs.Counts.{spelled_predicates, spelled_objects, spelled_schemas}
use Rattle.pddl_laws.proofs.laws.spelled_numbers_have_names.Goals as goal

pub returns-clause-predicates : goal.returns-clause-predicates
returns-clause-predicates c = spelled_predicates

pub returns-clause-objects : goal.returns-clause-objects
returns-clause-objects c = spelled_objects

pub returns-clause-schemas : goal.returns-clause-schemas
returns-clause-schemas c = spelled_schemas
