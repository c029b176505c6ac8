use Rattle.abstraction_domain.proofs.Numbering as numbering
use Rattle.abstraction_domain.proofs.laws.numbered_by_test.Goals as goal

pub returns : goal.returns
returns c classes = numbering.numbered_by_test classes
