use Rattle.abstraction.proofs.DigitLaws.{absent_from_search}
use Rattle.abstraction_groups.proofs.read.place_of.Goals as goal

pub returns-in-Err-clause-absent : goal.returns-in-Err-clause-absent
returns-in-Err-clause-absent c = absent_from_search c.args.variables.now c.args.variable c.binary_search.result _ c.binary_search.ensures.position c.in-Err.is c.requires
