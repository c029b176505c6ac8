use Rattle.abstraction_domain.specs.DomainLaws.{domain_abstracts}
use Rattle.abstraction_domain.proofs.RowLaws.{weighted_index}
use Rattle.abstraction_domain.proofs.laws.domain_is_abstraction.Goals as goal

pub returns-clause-abstraction : goal.returns-clause-abstraction
returns-clause-abstraction c task rows well fit = domain_abstracts task rows well fit

pub returns-clause-index : goal.returns-clause-index
returns-clause-index c task rows s fit increasing state = weighted_index task rows s fit increasing state
