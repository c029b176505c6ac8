use Rattle.std.proofs.Common.{sym}
use Rattle.fdr.specs.Tasks.{ranges}
use Rattle.abstraction.specs.ProjectionLaws.{projection_abstracts, weighted_index}
use Rattle.abstraction.proofs.laws.projection_is_abstraction.Goals as goal

pub returns-clause-abstraction : goal.returns-clause-abstraction
returns-clause-abstraction c task pattern well exist = projection_abstracts task well pattern exist

pub returns-clause-index : goal.returns-clause-index
returns-clause-index c task pattern s = sym (weighted_index (ranges task) pattern s)
