use Rattle.extract.proofs.Families.{as_family}
use Rattle.extract.proofs.laws.settled_as_family.Goals as goal

pub returns : goal.returns
returns g c = λ e family bound form ends. as_family g.S.Spread.owner e family ends bound
