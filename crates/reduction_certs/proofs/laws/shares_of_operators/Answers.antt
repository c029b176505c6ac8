use Rattle.reduction_certs.proofs.ShareLaws.{share_is}
use Rattle.reduction_certs.proofs.laws.shares_of_operators.Goals as goal

pub returns : goal.returns
returns _ representatives shares o = share_is representatives shares o
