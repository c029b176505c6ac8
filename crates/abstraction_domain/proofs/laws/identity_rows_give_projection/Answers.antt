use Rattle.abstraction_domain.proofs.IdentityLaws.{identity_is_projection}
use Rattle.abstraction_domain.proofs.laws.identity_rows_give_projection.Goals as goal

pub returns : goal.returns
returns c task pattern well exist = identity_is_projection task pattern well exist
